-- What a delivery to a process makes of the store: of one that holds a cabinet, one that holds the rules' cabinet after it. Document 01: "to
-- the reader's inbox, the reader's backup record".
use Rattle.std.specs.Prelude.{ℕ, ◌<◌, List, length}
use Rattle.backup.specs.Limits.{log_most}
use Rattle.rules.specs.Table.{Table, channel_at}
use Rattle.rules.specs.Judge.{Accepted}
use Rattle.rules.specs.Machine.{Mail}
use Rattle.rules.specs.Cabinet.{Cabinet, process_at}
use Rattle.rules.specs.Moves.{deliver}
use Rattle.state.specs.declared.entry.Entry.{Entry}
use Rattle.state.specs.declared.queue.Queue.{Queue}
use Rattle.state.specs.declared.store.Store.{Store}
use Rattle.state.specs.Store.{Totalled, Holds}
use Rattle.plan.specs.declared.Counts.{Counts}
use Rattle.plan.specs.declared.Plan.{Plan}
use Rattle.plan.specs.declared.Program.{Program}
use Rattle.plan.specs.Plan.{plan_of, Planned}
use Rattle.bus.specs.Parts.{OnlyProcesses}

-- a word on a channel
abbrev pub mail_of : ℕ → ℕ → Mail
mail_of channel word = record { channel = channel; word = word }

-- a reader that is a process has room for one more word
abbrev pub Room : Table → Cabinet → ℕ → Type 0
Room t c k = (channel_at t k).reader < length t.processes → length (process_at c (channel_at t k).reader).machine.mailbox < log_most

-- Whatever the table's bytes are, which it isn't lent, and the plan's counts and programs, the queues and the totals, which it doesn't look at; the
-- totals that are true afterwards are its caller's matter.
pub record Delivers (l : Plan) (s : Store) (channel word : ℕ) (s' : Store) : Type 0 where
  pub holds : (t : Table) (table : List ℕ) (counts : Counts) (programs : List Program) (queues : List Queue) (totals totals' : List ℕ)
      (entries : List Entry) (c : Cabinet)
      → Accepted t → Planned t (plan_of table (record l { counts = counts; programs = programs }))
      → Holds t (record s { queues = queues; totals = totals }) entries c
      → (channel_at t channel).reader < length t.processes → Room t c channel → Totalled t totals' (deliver t (mail_of channel word) c)
      → Holds t (record s' { queues = queues; totals = totals' }) entries (deliver t (mail_of channel word) c)
  pub only : OnlyProcesses s s'
