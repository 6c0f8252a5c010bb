-- How much of standard input the program reads, and that the rest is without effect (document 01: "A table length over 6,260 prints
-- `refused 1` and reads no further; over 60,003 bytes of schedule is 9 unless a lower number applies."; W-207: "The table's length limit becomes
-- 6,276", and 47 is "checked after 8 and before 9").
use Rattle.std.specs.Prelude.{◌≡◌, cond, List, ◌++◌, ℕ, ◌+◌, ◌*◌, ◌≤◌, ltb, length}
use Rattle.rules.specs.Sizes.{schedule_head, commands_most}
use Rattle.rules.specs.Format.{table_most, length_field}
use Rattle.rules.specs.Page.{bench_page}

-- one byte more than the longest schedule has: with it every schedule is too long, whatever follows
abbrev pub schedule_read : ℕ
schedule_read = schedule_head + 6 * commands_most + 1

-- how many bytes are wanted in all, once these are there
abbrev pub wanted_of : List ℕ → ℕ
wanted_of have = cond (ltb (length have) 2) 2 (cond (ltb table_most (length_field have)) 2 (2 + length_field have + schedule_read))

-- the longest table, and one byte more than the longest schedule
abbrev pub input_room : ℕ
input_room = 2 + table_most + schedule_read

pub record Wanted (have : List ℕ) (r : ℕ) : Type 0 where
  pub is : r ≡ wanted_of have
  -- a buffer of this size is long enough for what is wanted of every input
  pub no_more : r ≤ input_room
  -- two bytes tell: with more of the input the answer is the same
  pub settled : 2 ≤ length have → (more : List ℕ) → wanted_of (have ++ more) ≡ r
  -- and where so many bytes are there, the page is that of all the input, whatever else it has
  pub enough : r ≤ length have → (more : List ℕ) → bench_page (have ++ more) ≡ bench_page have
