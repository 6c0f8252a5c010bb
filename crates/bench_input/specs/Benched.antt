-- The program's work, from the bytes that it has read to the bytes that it prints.
use Rattle.std.specs.Prelude.{◌≡◌, List, ◌++◌, ℕ, ◌+◌, ◌*◌, ◌≤◌, length, take}
use Rattle.rules.specs.Format.{processes_most}
use Rattle.rules.specs.Schedule.{commands_most}
use Rattle.rules.specs.Page.{bench_page}
use Rattle.page.specs.Written.{Written}
use Rattle.bench_input.specs.Wanted.{wanted_of}

-- No page is longer than this: `records` and up to five digits; 10,000 lines of up to 25 bytes, with a number of five digits, two of
-- three and one of ten; 16 lines of up to 71, with `process`, a number of two digits, four of three and four of ten; and `quiet`.
abbrev pub page_room : ℕ
page_room = 14 + 25 * commands_most + 71 * processes_most + 8

-- What was read, the buffer before, what was returned, the buffer after.
pub record Benched (input out : List ℕ) (r : ℕ) (out' : List ℕ) : Type 0 where
  -- the page of these bytes is the buffer's front and its length is returned; a buffer too short for it stays as it was, and 0 is returned
  pub wrote : Written (bench_page input) out r out'
  -- a buffer of this size is long enough for the page of every input
  pub room : length (bench_page input) ≤ page_room
  -- what is returned counts bytes of the buffer (the second part follows; a caller's `&out[..r]` asks for it)
  pub within : r ≤ length out'
  pub part : r ≡ length (take r out')
  -- where as many bytes were read as are wanted, it is the page of all the input, whatever else that has
  pub whole : wanted_of input ≤ length input → (more : List ℕ) → bench_page (input ++ more) ≡ bench_page input
