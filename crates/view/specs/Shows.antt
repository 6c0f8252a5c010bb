-- The part of a view that an accepted one makes, once its table is decoded: a step on the way to `Views`.
use Rattle.std.specs.Prelude.{◌≡◌, List, ℕ, length}
use Rattle.table.specs.Plan.{Plans}
use Rattle.table.specs.declared.Decoded.{Decoded}
use Rattle.rules.specs.Bytes.{written}
use Rattle.rules.specs.Transparent.{ended}
use Rattle.rules.specs.Format.{decode_table}
use Rattle.rules.specs.Schedule.{decode_schedule}
use Rattle.layout.specs.View.{validate_view, view}

pub record Shows (table schedule : List ℕ) (d : Decoded) (before after : List ℕ) : Type 0 where
  pub shown : validate_view table schedule (length before) ≡ 0 → Plans table d
      → after ≡ written (view (decode_table table) (ended (decode_table table) (decode_schedule schedule))) before
