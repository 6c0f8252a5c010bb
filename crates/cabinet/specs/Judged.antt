-- Whether a run is refused, and by which number.
use Rattle.std.specs.Prelude.{◌≡◌, ◌&&◌, List, ℕ, ◌*◌, eqb, leb, Result, IfOk}
use Rattle.numbers.specs.Runs.{number_in}
use Rattle.numbers.specs.declared.runs.Refusal.{Refusal}
use Rattle.rules.specs.Format.{or_number}
use Rattle.rules.specs.Schedule.{commands_in}
use Rattle.rules.specs.Run as run
use Rattle.rules.specs.Run.{validate_run}
use Rattle.table.specs.Plan.{Plans}
use Rattle.cabinet.specs.declared.judge.Admitted.{Admitted}
use Rattle.cabinet.specs.declared.judge.Judged.{Judged}
use Rattle.cabinet.specs.declared.judge.Lengths.{Lengths}

-- the rules' lengths of the lent buffers
abbrev pub lengths_in : Lengths → run.Lengths
lengths_in l = record { answers = l.answers; reasons = l.reasons; report = l.report; origins = l.origins }

-- 0, or the number by which buffers of these lengths are too short for so many records and processes
unfoldable pub judged_buffers : ℕ → ℕ → Lengths → ℕ
judged_buffers records processes lengths =
    or_number (leb (6 * records) lengths.answers && leb records lengths.reasons) 11
    (or_number (leb (20 * processes) lengths.report) 12
    (or_number (leb (2 * records) lengths.origins) 51
    0))

-- 0, or the number that refuses a run: from the table's number and its processes, the judged schedule, and the buffers' lengths
unfoldable pub judged_run : ℕ → ℕ → Judged → Lengths → ℕ
unfolding judged_buffers
judged_run number processes judged lengths =
    or_number (eqb number 0) number
    (or_number (eqb judged.number 0) judged.number
    (judged_buffers judged.records processes lengths))

-- What judging a run finds, of any bytes of a table and a schedule and of buffers of any lengths: the rules' number, and where that is 0 what the
-- table says and how many records the schedule has.
pub record RunJudged (table schedule : List ℕ) (lengths : Lengths) (r : Result Admitted Refusal) : Type 0 where
  pub number_is : number_in r ≡ validate_run table schedule (lengths_in lengths)
  pub admitted : IfOk r (λ a. Plans table a.decoded × (a.records ≡ commands_in schedule))
