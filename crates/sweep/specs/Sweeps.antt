-- The public call's promise (document 02, W-213): number and counts are the rules'. "Each count equals the number of such runs by the rules, and
-- the three together make (n + 1) × B."
use Rattle.std.specs.Prelude.{◌≡◌, List, ℕ, suc, ◌+◌, ◌*◌, length, Result, Ok, Err, IfOk}
use Rattle.numbers.specs.Runs.{number_of}
use Rattle.numbers.specs.declared.runs.Refusal.{Refusal}
use Rattle.rules.specs.Sizes.{sweep_most, boards_most}
use Rattle.rules.specs.Format.{decode_table}
use Rattle.rules.specs.Schedule.{decode_schedule}
use Rattle.rules.specs.Sweep as rules
use Rattle.sweep.specs.declared.tally.Tally.{Tally}

-- the most runs of a sweep: 501 places, 16 boards
abbrev pub runs_most : ℕ
runs_most = suc sweep_most * boards_most

-- what a call returned, as the rules' outcome of a sweep: 0 and the three counts, or the number of a refusal and counts of 0
abbrev pub swept_by : Result Tally Refusal → rules.Swept
swept_by (Ok x) = rules.swept_of 0 x.quiet x.held x.free
swept_by (Err r) = rules.swept_of (number_of r) 0 0 0

-- a sweep of any bytes of a table and a schedule
pub record Sweeps (table schedule : List ℕ) (r : Result Tally Refusal) : Type 0 where
  -- refused with the lowest number that applies and counts of 0, or accepted with the three counts
  pub swept : swept_by r ≡ rules.sweep table schedule
  pub together : IfOk r (λ x. x.quiet + (x.held + x.free) ≡ suc (length (decode_schedule schedule)) * (decode_table table).boards)
