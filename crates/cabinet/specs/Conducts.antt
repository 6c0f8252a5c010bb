-- The part of a run that an accepted one makes, once its table is decoded: a step on the way to `Runs`.
use Rattle.std.specs.Prelude.{◌≡◌, Bool, List, ℕ}
use Rattle.table.specs.Plan.{Plans}
use Rattle.table.specs.declared.Decoded.{Decoded}
use Rattle.rules.specs.Format.{decode_table}
use Rattle.rules.specs.Schedule.{commands_in, decode_schedule}
use Rattle.rules.specs.Run.{Buffers, lengths_of, ran_of, validate_run, ran_from}

pub record Conducts (table schedule : List ℕ) (d : Decoded) (before : Buffers) (quiet : Bool) (after : Buffers) : Type 0 where
  pub conducted : validate_run table schedule (lengths_of before) ≡ 0 → Plans table d
      → ran_of 0 (commands_in schedule) quiet after ≡ ran_from (decode_table table) (decode_schedule schedule) before
