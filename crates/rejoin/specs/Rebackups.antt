-- Move 7 (document 02, W-210: "Move 7 resyncs process a").
use Rattle.std.specs.Prelude.{Bool, List, ℕ, ◌%◌, ltb, get_or}
use Rattle.plan.specs.declared.Counts.{Counts}
use Rattle.plan.specs.declared.Plan as code
use Rattle.plan.specs.declared.Program.{Program}
use Rattle.plan.specs.Plan.{plan_of, input_in}
use Rattle.rules.specs.Cabinet.{occupancy_most}
use Rattle.rules.specs.Moves.{rebackup}
use Rattle.rules.specs.Sizes.{channels_most}
use Rattle.state.specs.declared.entry.Entry.{Entry}
use Rattle.state.specs.declared.entry.Item.TheVariants.{Transfer}
use Rattle.state.specs.declared.moved.Moved.{Moved}
use Rattle.state.specs.declared.store.Store.{Store}
use Rattle.state.specs.Moved.{Makes, AProcess}

-- the channel at a port of process p; no table has one over 31
abbrev pub channel_in : List Program → ℕ → ℕ → ℕ
channel_in programs p port = input_in programs p port % channels_most

-- "on one channel it reads, more than 8 words unread and in queues together", of the channel at a port
abbrev pub crowded_on : List Program → List ℕ → ℕ → ℕ → Bool
crowded_on programs totals p port = ltb occupancy_most (get_or totals (channel_in programs p port) 0)

-- the entry that joins: "its snapshot and copies of all its unread words" stand in the record that is being made
abbrev pub transfer_entry : ℕ → Entry
transfer_entry a = record { item = Transfer a }

-- whatever the table's bytes are, which it isn't lent, and the plan's counts, which it doesn't look at; done, it answers 0
abbrev pub Rebackups : code.Plan → Store → ℕ → Store → Moved → Type 0
Rebackups plan s a s' r =
    (table : List ℕ) (counts : Counts)
    → Makes rebackup (AProcess a) 0 (plan_of table (record plan { counts = counts })) s a (transfer_entry a) s' r
