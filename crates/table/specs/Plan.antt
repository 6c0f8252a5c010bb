-- The plan of a table says what the table says, and the decoder's promise.
use Rattle.std.specs.Prelude.{◌≡◌, List, ℕ, ◌<◌, length, slice_index_or, Result, IfOk}
use Rattle.rules.specs.Table.{placement_at}
use Rattle.rules.specs.Format.{decode_table, validate_table}
use Rattle.numbers.specs.Runs.{number_in}
use Rattle.numbers.specs.declared.runs.Refusal.{Refusal}
use Rattle.plan.specs.Plan.{no_placement, plan_of, Planned}
use Rattle.plan.specs.declared.Placement.{Placement}
use Rattle.table.specs.declared.Decoded.{Decoded}

-- the boards of process p, by name
abbrev pub primary_in : List Placement → ℕ → ℕ
primary_in placements p = (slice_index_or placements p no_placement).primary

abbrev pub standby_in : List Placement → ℕ → ℕ
standby_in placements p = (slice_index_or placements p no_placement).standby

-- of an accepted table: the plan is the one of what document 01's definitions read out of the bytes, with both boards of each process
pub record Plans (bytes : List ℕ) (d : Decoded) : Type 0 where
  pub planned : Planned (decode_table bytes) (plan_of bytes d.plan)
  pub primary_at : (p : ℕ) → p < length (decode_table bytes).processes → primary_in d.placements p ≡ (placement_at (decode_table bytes) p).primary
  pub standby_at : (p : ℕ) → p < length (decode_table bytes).processes → standby_in d.placements p ≡ (placement_at (decode_table bytes) p).standby

-- What decoding any bytes gives: the plan, or the lowest number that refuses them and no plan.
pub record Decodes (bytes : List ℕ) (r : Result Decoded Refusal) : Type 0 where
  pub number_is : number_in r ≡ validate_table bytes
  pub accepted : IfOk r (Plans bytes)
