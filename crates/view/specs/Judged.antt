-- Whether a view is refused, and by which number.
use Rattle.std.specs.Prelude.{◌≡◌, List, ℕ, Result, IfOk}
use Rattle.numbers.specs.Runs.{number_in}
use Rattle.numbers.specs.declared.runs.Refusal.{Refusal}
use Rattle.table.specs.Plan.{Plans}
use Rattle.table.specs.declared.Decoded.{Decoded}
use Rattle.layout.specs.View.{validate_view}

-- What judging a view finds, of any bytes of a table and a schedule and with room for so many numbers: the rules' number, and where that is 0 what
-- the table says.
pub record ViewJudged (table schedule : List ℕ) (room : ℕ) (r : Result Decoded Refusal) : Type 0 where
  pub number_is : number_in r ≡ validate_view table schedule room
  pub decoded : IfOk r (Plans table)
