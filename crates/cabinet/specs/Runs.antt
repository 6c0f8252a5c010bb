-- The public call's promise: what the rules' run gives, and demand 3.
use Rattle.std.specs.Prelude.{◌≡◌, false, List, ℕ, Result, Ok, Err}
use Rattle.numbers.specs.Runs.{number_of, number_in}
use Rattle.numbers.specs.declared.runs.Refusal.{Refusal}
use Rattle.rules.specs.Run.{Buffers, Ran, ran_of, run}
use Rattle.rules.specs.Transparency.{FailureTransparency}
use Rattle.cabinet.specs.declared.run.Ended.{Ended}

-- What a call returned, with the lent buffers as it left them, as the rules' outcome of a run: 0 with the number of records and whether it ended
-- quiet, or the number of a refusal with 0 and false.
abbrev pub ran_by : Result Ended Refusal → Buffers → Ran
ran_by (Ok e) after = ran_of 0 e.records e.quiet after
ran_by (Err r) after = ran_of (number_of r) 0 false after

-- A run of any bytes of a table and a schedule, with buffers of any length: these before it, those after it.
pub record Runs (table schedule : List ℕ) (before : Buffers) (r : Result Ended Refusal) (after : Buffers) : Type 0 where
  -- demand 2: result and buffers are those of the rules' run: refused with the lowest number that applies and nothing written, or accepted
  -- with every answer and every line of the report, the bytes beyond them untouched
  pub ran : ran_by r after ≡ run table schedule before
  -- demand 3 of an accepted run, about the answers in the buffer as the call left it and the `quiet` that it returned
  pub failure_transparent : number_in r ≡ 0 → FailureTransparency table schedule (ran_by r after)
