-- A page written into a lent buffer, or answered with 0 where it has no room.
use Rattle.std.specs.Prelude.{◌≡◌, List, [], ℕ, ◌≤◌, ◌<◌, length}
use Rattle.rules.specs.Bytes.{written}
use Rattle.rules.specs.Run.{Buffers, buffers_of}

-- what a page shows of a run's buffers: nothing of the reasons and the origins
abbrev pub shown_of : List ℕ → List ℕ → Buffers
shown_of answers report = buffers_of answers [] report []

-- The page, the buffer before, what was returned, the buffer after.
pub record Written (page out : List ℕ) (r : ℕ) (out' : List ℕ) : Type 0 where
  -- a buffer with room: the page's length is returned, the page is its front and what is behind the page stays
  pub long : length page ≤ length out → r ≡ length page
  pub fits : length page ≤ length out → out' ≡ written page out
  -- one without: 0 is returned, which is no page's length, and the buffer stays as it was
  pub no_room : length out < length page → r ≡ 0
  pub untouched : length out < length page → out' ≡ out
  pub never_empty : 0 < length page
