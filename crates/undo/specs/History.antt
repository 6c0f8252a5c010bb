-- The records that are held since the base, in the bytes of a schedule.
use Rattle.std.specs.Prelude.{◌≡◌, List, ◌++◌, ℕ, ◌+◌, ◌-◌, ◌*◌, ◌≤◌, length, take}
use Rattle.rules.specs.Sizes.{kept_most, schedule_head}
use Rattle.rules.specs.Moves.{Command}
use Rattle.rules.specs.Schedule.{commands_in, decode_schedule}
use Rattle.stretch.specs.Plays.{between}

-- how many records are held at most, and how many bytes hold them
abbrev pub held_most : ℕ
held_most = 2 * kept_most

abbrev pub history_length : ℕ
history_length = schedule_head + 6 * held_most

-- the first n
abbrev pub held_in : List ℕ → ℕ → List Command
held_in history n = take n (decode_schedule history)

-- a schedule has the records from number `from` on, before number `to`, and there is room for them behind the first n
pub record Fitting (schedule : List ℕ) (from to n : ℕ) : Type 0 where
  pub forward : from ≤ to
  pub there : to ≤ commands_in schedule
  pub fits : n + (to - from) ≤ held_most

-- they are held there
pub record Remembers (schedule : List ℕ) (from to : ℕ) (before : List ℕ) (n : ℕ) (after : List ℕ) : Type 0 where
  pub same_length : length after ≡ length before
  pub held-is : length before ≡ history_length → held_in after (n + (to - from)) ≡ held_in before n ++ between schedule from to
