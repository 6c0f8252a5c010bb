-- Whether a sweep is refused, and by which number.
use Rattle.std.specs.Prelude.{◌≡◌, List, ℕ, Result, IfOk}
use Rattle.numbers.specs.Runs.{number_in}
use Rattle.numbers.specs.declared.runs.Refusal.{Refusal}
use Rattle.rules.specs.Schedule.{commands_in}
use Rattle.rules.specs.Sweep.{validate_sweep}
use Rattle.sweep.specs.Counted.{Admitted}
use Rattle.sweep.specs.declared.judge.Sweepable.{Sweepable}

-- What judging a sweep finds, of any bytes of a table and a schedule: the rules' number, and where that is 0 the table's counts and how many
-- records the schedule has.
pub record SweepJudged (table schedule : List ℕ) (r : Result Sweepable Refusal) : Type 0 where
  pub number_is : number_in r ≡ validate_sweep table schedule
  pub admitted : IfOk r (λ s. Admitted table schedule s.counts × (s.records ≡ commands_in schedule))
