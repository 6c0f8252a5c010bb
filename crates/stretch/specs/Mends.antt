-- Moves 5 to 7, made by one call.
use Rattle.std.specs.Prelude.{◌≡◌, List, ℕ}
use Rattle.numbers.specs.declared.answers.Reason.TheVariants.{NoSuchMove}
use Rattle.plan.specs.declared.Plan as code
use Rattle.plan.specs.Plan.{plan_of}
use Rattle.rules.specs.Moves.{crash, rejoin, rebackup}
use Rattle.state.specs.declared.moved.Moved.{Moved}
use Rattle.state.specs.declared.store.Store.{Store}
use Rattle.state.specs.Moved.{Makes, ABoard, AProcess, refused_for}
use Rattle.rejoin.specs.Rebackups.{transfer_entry}

-- The move of number mv was made, whatever the table's bytes are, which it isn't lent. The entry that joins, if one does, is a transfer.
pub record Mends (plan : code.Plan) (mv a : ℕ) (s s' : Store) (r : Moved) : Type 0 where
  pub crashes : mv ≡ 5 → (table : List ℕ) → Makes crash (ABoard a) 0 (plan_of table plan) s a (transfer_entry a) s' r
  pub rejoins : mv ≡ 6 → (table : List ℕ) → Makes rejoin (ABoard a) 0 (plan_of table plan) s a (transfer_entry a) s' r
  pub rebackups : mv ≡ 7 → (table : List ℕ) → Makes rebackup (AProcess a) 0 (plan_of table plan) s a (transfer_entry a) s' r
  -- any other is refused, and nothing changes
  pub others : (mv ≡ 5 → ⊥) → (mv ≡ 6 → ⊥) → (mv ≡ 7 → ⊥) → (s' ≡ s) × (r ≡ refused_for NoSuchMove a)
