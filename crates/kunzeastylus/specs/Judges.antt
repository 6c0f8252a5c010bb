-- The promise of `ks_judge`: the rules' number, which looks at nothing of the lent buffers but their lengths.
use Rattle.std.specs.Prelude.{◌≡◌, List, ℕ}
use Rattle.rules.specs.Run.{validate_run}

-- of any bytes of a table and a schedule, and any lengths
pub record Judges (table schedule : List ℕ) (answers reasons report origins number : ℕ) : Type 0 where
  pub number_is : number ≡ validate_run table schedule (record { answers = answers; reasons = reasons; report = report; origins = origins })
