-- What a record comes to that is no step, no sync and no carry, done and answered by one call.
use Rattle.std.specs.Prelude.{◌≡◌, List, ℕ, Option}
use Rattle.bus.specs.Origins.{fed_from}
use Rattle.command.specs.declared.due.Due.{Due}
use Rattle.command.specs.Judges.{turned_away}
use Rattle.plan.specs.declared.Plan as code
use Rattle.plan.specs.Plan.{plan_of}
use Rattle.rules.specs.Machine.{Origin}
use Rattle.rules.specs.Moves.{inject, no_origin}
use Rattle.state.specs.declared.moved.Moved.{Moved}
use Rattle.state.specs.declared.store.Store.{Store}
use Rattle.state.specs.Moved.{Makes, AChannel, alone_of}
use Rattle.rejoin.specs.Rebackups.{transfer_entry}
use Rattle.stretch.specs.Mends.{Mends}
use Rattle.stretch.specs.Plays.{Sheets, Writes}

-- Record i, which is d: store s is then s', and the buffers `before` are `after`. It was answered with `moved`, which is written there, and
-- `at` is where the entry that joins by it is put, if one does.
pub record Others (plan : code.Plan) (i : ℕ) (d : Due) (s : Store) (before : Sheets) (s' : Store) (after : Sheets) (at : Option ℕ) : Type 0 where
  pub moved : Moved
  pub origin : Origin
  pub at_is : at ≡ moved.at
  pub writes : Writes before i moved.answer origin after
  -- "Any record: 32 for an unknown move or a word that should be 0, 33 if a is no process, board or channel of this table": nothing changes
  pub refused : (d.number ≡ 0 → ⊥) → ((s' ≡ s) × (origin ≡ no_origin)) × (moved ≡ alone_of (turned_away d.number d.mv d.a))
  -- a feed, whatever the table's bytes are, which it isn't lent
  pub fed : d.number ≡ 0 → d.mv ≡ 4 → (origin ≡ fed_from moved.answer.code)
      × ((table : List ℕ) → Makes (λ t c k. inject t c (record { channel = k; word = d.word })) (AChannel d.a) 0
      (plan_of table plan) s d.a (transfer_entry d.a) s' moved)
  -- and moves 5 to 7
  pub mended : d.number ≡ 0 → (d.mv ≡ 4 → ⊥) → Mends plan d.mv d.a s s' moved × (origin ≡ no_origin)
