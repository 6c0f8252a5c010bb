-- What the parts of the moves on the bus make of the store that they are lent, and what they leave alone.
use Rattle.std.specs.Prelude.{◌≡◌, ℕ, List, length, slice_index_or, slice_set}
use Rattle.process.specs.declared.process.Process.{Process}
use Rattle.state.specs.declared.queue.Queue.{Queue}
use Rattle.state.specs.declared.store.Store.{Store}
use Rattle.state.specs.Queue.{no_queue, Popped}
use Rattle.state.specs.Beside.{each_with}

-- a store with other totals
abbrev pub with_totals : Store → List ℕ → Store
with_totals s totals = record { processes = s.processes; queues = s.queues; totals = totals }

-- a process with the mailbox of another, and a store with these mailboxes
abbrev pub other_mail : Process → Process → Process
other_mail x other = record x { mail = other.mail }

abbrev pub with_mails : (ℕ → Process) → Store → Store
with_mails others s = record s { processes = each_with other_mail others s.processes }

-- Processes changed alone, and there are as many as there were.
pub record OnlyProcesses (s s' : Store) : Type 0 where
  pub processes-same : length s'.processes ≡ length s.processes
  pub queues-is : s'.queues ≡ s.queues
  pub totals-is : s'.totals ≡ s.totals

-- Board b's oldest entry left its queue, and nothing else changed.
pub record Left (s : Store) (b : ℕ) (s' : Store) : Type 0 where
  pub queue : Queue
  pub popped : Popped (slice_index_or s.queues b no_queue) queue
  pub left-is : s' ≡ record { processes = s.processes; queues = slice_set s.queues b queue; totals = s.totals }
