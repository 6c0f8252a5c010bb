-- Move 3 (document 01: "carry board a: the oldest entry leaves").
use Rattle.std.specs.Prelude.{◌≡◌, ℕ, ◌<◌, List, slice_index_or}
use Rattle.plan.specs.declared.Counts.{Counts}
use Rattle.plan.specs.declared.Plan.{Plan}
use Rattle.plan.specs.declared.Program.{Program}
use Rattle.plan.specs.Plan.{plan_of}
use Rattle.rules.specs.Table.{Table}
use Rattle.rules.specs.Moves.{transmit}
use Rattle.state.specs.declared.entry.Entry.{Entry}
use Rattle.state.specs.declared.moved.Answer.{Answer}
use Rattle.state.specs.declared.queue.Queue.{Queue}
use Rattle.state.specs.declared.store.Store.{Store}
use Rattle.state.specs.Queue.{no_queue, oldest_of}
use Rattle.state.specs.Store.{blank_entry}
use Rattle.state.specs.Moved.{MakesAlone}

-- a is a board, and this is what stands where its oldest entry does
pub record Oldest (queues : List Queue) (a : ℕ) (oldest : Entry) (t : Table) (entries : List Entry) : Type 0 where
  pub board-there : a < t.boards
  pub oldest-is : oldest ≡ slice_index_or entries (oldest_of (slice_index_or queues a no_queue) a) blank_entry

-- whatever the table's bytes are, which it isn't lent, the plan's counts and programs, which it doesn't look at, and the entries of which it is handed
-- the oldest
abbrev pub Transmits : Plan → Store → ℕ → Entry → Store → Answer → Type 0
Transmits l s a oldest s' r =
    (table : List ℕ) (counts : Counts) (programs : List Program)
    → MakesAlone transmit (Oldest s.queues a oldest) (plan_of table (record l { counts = counts; programs = programs })) s a s' r
