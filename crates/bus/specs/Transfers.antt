-- The carry of a state transfer. W-210: "When that entry is carried, its other table board holds a new record with those words, then all
-- that have arrived since issue, and count 0." "Its carry answers 5 with word 0".
use Rattle.std.specs.Prelude.{◌≡◌, ℕ, ◌<◌, List, ◌∷◌, slice_index_or, slice_set}
use Rattle.process.specs.declared.process.Process.{Process}
use Rattle.rules.specs.Table.{Table}
use Rattle.rules.specs.Cabinet as rules
use Rattle.rules.specs.Cabinet.{Cabinet, outbox_at}
use Rattle.rules.specs.Moves.{Command, with_outbox, transmit_item}
use Rattle.state.specs.declared.entry.Entry.{Entry}
use Rattle.state.specs.declared.moved.Answer.{Answer}
use Rattle.state.specs.declared.queue.Queue.{Queue}
use Rattle.state.specs.declared.store.Store.{Store}
use Rattle.state.specs.Queue.{no_queue, Popped}
use Rattle.state.specs.Store.{Holds}
use Rattle.state.specs.Beside.{with_lists}
use Rattle.state.specs.Moved.{Reachable, Answered, Reasoned, MailsStay, BackupsStay}
use Rattle.bus.specs.Parts.{OnlyProcesses}

-- As for a checkpoint (Syncs): of the cabinet before the transfer, board b's oldest entry, left its queue. Whatever the mailboxes, the backups, the
-- queues and the totals are, which it doesn't look at.
pub record Transfers (s : Store) (process : ℕ) (s' : Store) (r : Answer) : Type 0 where
  pub answered : (t : Table) (others : ℕ → Process) (queues : List Queue) (totals : List ℕ) (entries : List Entry) (c : Cabinet) (command : Command)
      (b : ℕ) (queue' : Queue) (rest : List rules.Item)
      → Reachable t c → Holds t (record (with_lists others s) { queues = queues; totals = totals }) entries c → b < t.boards
      → Popped (slice_index_or queues b no_queue) queue' → outbox_at c b ≡ rules.transfer process ∷ rest
      → Answered t (record (with_lists others s') { queues = slice_set queues b queue'; totals = totals }) entries c command
      (transmit_item t (with_outbox b rest c) (rules.transfer process)) r
  pub reasoned : Reasoned r
  pub done : r.code < 32
  pub only : OnlyProcesses s s'
  pub mails-stay : MailsStay s s'
  pub backups-stay : BackupsStay s s'
