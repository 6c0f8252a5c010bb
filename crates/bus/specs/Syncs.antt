-- The carry of a checkpoint. Document 01: "A sync replaces the state in the process's backup record, drops the oldest saved words slot by
-- slot as taken, and zeroes the count"; "5 sync carried, 6 sync with no backup left (process, 0)". W-202: 5 "with the total dropped as its
-- word".
use Rattle.std.specs.Prelude.{◌≡◌, ℕ, ◌<◌, List, ◌∷◌, slice_index_or, slice_set}
use Rattle.backup.specs.declared.place.Checkpoint as code
use Rattle.backup.specs.Place.{checkpoint_of}
use Rattle.process.specs.declared.process.Process.{Process}
use Rattle.rules.specs.Table.{Table}
use Rattle.rules.specs.Cabinet as rules
use Rattle.rules.specs.Cabinet.{Cabinet, outbox_at}
use Rattle.rules.specs.Moves.{Command, with_outbox, transmit_item}
use Rattle.state.specs.declared.entry.Entry.{Entry}
use Rattle.state.specs.declared.moved.Answer.{Answer}
use Rattle.state.specs.declared.queue.Queue.{Queue}
use Rattle.state.specs.declared.store.Store.{Store}
use Rattle.state.specs.Queue.{no_queue, Popped}
use Rattle.state.specs.Store.{Holds}
use Rattle.state.specs.Moved.{Reachable, Answered, Reasoned, MailsStay}
use Rattle.bus.specs.Parts.{with_mails, OnlyProcesses}

-- Of the cabinet that the store held before the checkpoint, board b's oldest entry, left its queue: afterwards, with the queue as the leaving made
-- it, the store holds the cabinet that the rules give. Whatever the mailboxes, the queues and the totals are, which it doesn't look at.
pub record Syncs (s : Store) (process : ℕ) (checkpoint : code.Checkpoint) (s' : Store) (r : Answer) : Type 0 where
  pub answered : (t : Table) (mails : ℕ → Process) (queues : List Queue) (totals : List ℕ) (entries : List Entry) (c : Cabinet) (command : Command)
      (b : ℕ) (queue' : Queue) (rest : List rules.Item)
      → Reachable t c → Holds t (record (with_mails mails s) { queues = queues; totals = totals }) entries c → b < t.boards
      → Popped (slice_index_or queues b no_queue) queue' → outbox_at c b ≡ rules.checkpoint process (checkpoint_of checkpoint) ∷ rest
      → Answered t (record (with_mails mails s') { queues = slice_set queues b queue'; totals = totals }) entries c command
      (transmit_item t (with_outbox b rest c) (rules.checkpoint process (checkpoint_of checkpoint))) r
  pub reasoned : Reasoned r
  pub done : r.code < 32
  pub only : OnlyProcesses s s'
  pub mails-stay : MailsStay s s'
