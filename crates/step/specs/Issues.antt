-- Move 2 (document 01: "sync process a").
use Rattle.std.specs.Prelude.{ℕ, List}
use Rattle.backup.specs.declared.place.Checkpoint.{Checkpoint}
use Rattle.plan.specs.Plan.{Plan}
use Rattle.process.specs.declared.process.Process.{Process}
use Rattle.process.specs.Row.{checkpoint_in}
use Rattle.rules.specs.Moves.{issue}
use Rattle.state.specs.declared.entry.Entry.{Entry}
use Rattle.state.specs.declared.entry.Item.TheVariants.{Sync}
use Rattle.state.specs.declared.moved.Moved.{Moved}
use Rattle.state.specs.declared.store.Store.{Store}
use Rattle.state.specs.Store.{lists_at}
use Rattle.state.specs.Beside.{with_lists}
use Rattle.state.specs.Moved.{Makes, AProcess}

-- the entry that joins: the process as a checkpoint,
abbrev pub synced_as : ℕ → Checkpoint → Entry
synced_as a checkpoint = record { item = Sync a checkpoint }

-- that of the process before the move
abbrev pub sync_entry : Store → ℕ → Entry
sync_entry s a = synced_as a (checkpoint_in (lists_at s a))

-- Whatever the plan is, which it isn't lent, and whatever mailboxes and backups the processes have and the totals are, none of which it looks
-- at; done, it answers 0.
abbrev pub Issues : Store → ℕ → Store → Moved → Type 0
Issues s a s' r =
    (l : Plan) (others : ℕ → Process) (totals : List ℕ)
    → Makes issue (AProcess a) 0 l (record (with_lists others s) { totals = totals }) a (sync_entry s a)
    (record (with_lists others s') { totals = totals }) r
