-- What W-210 says of a returned board's new records, as statements about every state that commands reach.
-- Definitions only; proofs/CopyCalls, Pending, Homes and Arrivals prove them.
use Rattle.std.specs.Prelude.{◌≢◌, ◌≡◌, Bool, false, cond, ◌||◌, List, [], ◌∷◌, ◌++◌, ℕ, suc, eqb}
use Rattle.std.proofs.Math.Option.{some}
use Rattle.backup.specs.Replica.{Message, Replica, Checkpoint, initial, arrived, synced, arrive_number, sync_number}
use Rattle.rules.specs.Table.{Table, placement_at, channel_at, port_of}
use Rattle.rules.specs.Machine.{Mail, Machine}
use Rattle.rules.specs.Cabinet.{Standby, Process, Item, Cabinet, no_takes, process_at, other_board, is_waiter_of, occupancy}
use Rattle.rules.specs.Moves.{Answer, step_done, issue_done, crash_done, rejoin_done, rebackup_done, received, queued, suppressed}
use Rattle.rules.specs.Moves.{transmitted, injected, sync_kept, sync_lost, transfer_kept, undo_done, refused, numbers, copied}
use Rattle.rules.specs.Transparent.{trace_of}

-- ---- where the halves of a process are

-- Process p, as x: it runs on one of its two boards of the table, and its record, complete or being made, is on the other.
pub record Home (t : Table) (p : ℕ) (x : Process) : Type 0 where
  pub runs : x.board ≢ (placement_at t p).primary → x.board ≡ (placement_at t p).standby
  pub other : (s : Standby) → x.standby ≡ some s → s.board ≡ other_board t p x

-- ---- "its snapshot and copies of all its unread words": a record that its own calls make

-- registers and place, with nothing taken
abbrev pub snapshot_of : Machine → Checkpoint
snapshot_of m = record { pc = m.pc; registers = m.registers; taken = no_takes }

-- each word of a list arrives, in order
abbrev pub all_arrived : Table → ℕ → Replica → List Mail → Replica
all_arrived t p r [] = r
all_arrived t p r (x ∷ l) = all_arrived t p (arrived r (port_of t p x.channel) x.word) l

-- a new record is synced to the snapshot of machine m, then each unread word arrives
abbrev pub copied_so_far : Table → ℕ → Machine → List Mail → Replica
copied_so_far t p m words = all_arrived t p (synced initial (snapshot_of m)) words

-- none of these calls is refused, and they make the record of a resync
pub record CopyCalls (t : Table) (p : ℕ) (m : Machine) : Type 0 where
  pub syncs : sync_number initial (snapshot_of m) ≡ 0
  pub arrives : (sofar rest : List Mail) (x : Mail) → m.mailbox ≡ sofar ++ (x ∷ rest)
      → arrive_number (copied_so_far t p m sofar) (port_of t p x.channel) ≡ 0
  pub makes : copied_so_far t p m m.mailbox ≡ copied t p m

-- ---- what waits

-- the record of process p is being made, with "count 0"
pub record BeingMade (c : Cabinet) (p : ℕ) : Type 0 where
  pub standby : Standby
  pub is-standby : (process_at c p).standby ≡ some standby
  pub incomplete : standby.complete ≡ false
  pub uncounted : standby.replica.sent ≡ 0

-- how many syncs and resyncs of process p wait in an outbox
abbrev pub pending_of : ℕ → List Item → ℕ
pending_of p [] = 0
pending_of p (x ∷ q) =
    let others = pending_of p q in
    cond (is_waiter_of p x) (suc others) others

-- ---- "those words, then all that have arrived since issue"

-- the words of a bus order that process p reads, each by its port
abbrev pub arrivals : Table → ℕ → List Mail → List Message
arrivals t p [] = []
arrivals t p (x ∷ l) =
    let others = arrivals t p l in
    cond (eqb (channel_at t x.channel).reader p) (record { port = port_of t p x.channel; word = x.word } ∷ others) others

-- a record with the words of a bus order that its process reads, and nothing else of it changed
abbrev pub with_arrivals : Table → ℕ → Replica → List Mail → Replica
with_arrivals t p r words = record { log = r.log ++ arrivals t p words; sent = r.sent; pc = r.pc; registers = r.registers }

-- the words that an answer puts on the bus
abbrev pub bus_words : Answer → List Mail
bus_words a = trace_of (numbers a ∷ [])

-- the answer to the carry of process p's resync
abbrev pub completes_for : ℕ → Answer → Bool
completes_for p (transfer_kept q) = eqb p q
completes_for p step_done = false
completes_for p issue_done = false
completes_for p crash_done = false
completes_for p rejoin_done = false
completes_for p rebackup_done = false
completes_for p undo_done = false
completes_for p (received x) = false
completes_for p (queued x) = false
completes_for p (suppressed x) = false
completes_for p (transmitted x) = false
completes_for p (injected x) = false
completes_for p (sync_kept q dropped) = false
completes_for p (sync_lost q) = false
completes_for p (refused why a) = false

abbrev pub any_completes : ℕ → List Answer → Bool
any_completes p [] = false
any_completes p (a ∷ l) = completes_for p a || any_completes p l

-- the same on its board, complete or not
abbrev pub grown : Table → ℕ → Standby → List Mail → Bool → Standby
grown t p k words complete = record { board = k.board; replica = with_arrivals t p k.replica words; complete = complete }

-- The record of process p was k, and being made; after a part of a run with this bus order, which leaves cabinet d, it is k with the words that
-- arrived in that part.
abbrev pub Grown : Table → ℕ → Standby → List Mail → Bool → Cabinet → Type 0
Grown t p k words complete d = (process_at d p).standby ≡ some (grown t p k words complete)

-- ---- "Those copies count on no channel, neither for 39 and 49 nor in the totals."

-- cabinet d has on each channel as many words unread and in queues together as c
abbrev pub SameTotals : Table → Cabinet → Cabinet → Type 0
SameTotals t c d = (k : ℕ) → occupancy t d k ≡ occupancy t c k
