-- Reading: how much, and where it is put. What is read no contract can say.
use Rattle.std.specs.Prelude.{◌≡◌, List, ℕ, ◌≤◌, length, take}
use Rattle.bench_input.specs.Wanted.{wanted_of}

-- a part of a buffer is filled from its start, up to a place r, and what is in front of the part stays
pub record FilledPart (buffer : List ℕ) (from to r : ℕ) (buffer' : List ℕ) : Type 0 where
  pub begins : from ≤ r
  pub ends : r ≤ to
  pub same_length : length buffer' ≡ length buffer
  pub in_front : take from buffer' ≡ take from buffer

-- r bytes are at a buffer's front, and never more than are wanted: a "table length over 6,260 [..] reads no further", 6,276 since W-207
pub record Took (r : ℕ) (buffer' : List ℕ) : Type 0 where
  pub within : r ≤ length buffer'
  pub part : r ≡ length (take r buffer')
  pub no_further : r ≤ wanted_of (take r buffer')
