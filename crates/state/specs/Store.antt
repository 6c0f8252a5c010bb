-- How a store and one flat array of entries stand for a cabinet of the rules.
use Rattle.std.specs.Prelude.{◌≡◌, ℕ, ◌<◌, ◌≤◌, Bool, cond, List, map, length, slice_index, slice_index_or}
use Rattle.facts.specs.Lists.{listed}
use Rattle.facts.specs.Rings.{ring}
use Rattle.backup.specs.Place.{checkpoint_of}
use Rattle.process.specs.declared.process.Process as code
use Rattle.process.specs.Row.{no_process, process_of, Kept, Seated}
use Rattle.rules.specs.Table.{Table, placement_at}
use Rattle.rules.specs.Cabinet as rules
use Rattle.rules.specs.Cabinet.{Cabinet, Process, outbox_most, occupancy, waiting, process_at, outbox_at}
use Rattle.rules.specs.Sizes.{boards_most, processes_most, channels_most, entries_most}
use Rattle.state.specs.declared.entry.Entry.{Entry}
use Rattle.state.specs.declared.entry.Item.{Item}
use Rattle.state.specs.declared.entry.Item.TheVariants.{Word, Sync, Transfer}
use Rattle.state.specs.declared.queue.Queue.{Queue}
use Rattle.state.specs.declared.store.Store.{Store}
use Rattle.state.specs.Queue.{first_in, count_in, dead_in}

-- ---- processes

-- what the store has of process p
abbrev pub lists_at : Store → ℕ → code.Process
lists_at s p = slice_index_or s.processes p no_process

-- process p as the store has it
abbrev pub process_in : Store → ℕ → Process
process_in s p = process_of (lists_at s p)

-- ---- entries

abbrev pub item_of : Item → rules.Item
item_of (Word channel word pc) = rules.message (record { channel = channel; word = word }) pc
item_of (Sync process c) = rules.checkpoint process (checkpoint_of c)
item_of (Transfer process) = rules.transfer process

-- what stands where no entry was ever put
unfoldable pub blank_entry : Entry
blank_entry = record { item = Word 0 0 0 }

-- board b's queue, oldest entry first
unfoldable pub outbox_in : List Queue → List Entry → ℕ → List rules.Item
unfolding blank_entry
outbox_in queues entries b = map (λ (e : Entry). item_of e.item) (ring blank_entry entries b (first_in queues b) (count_in queues b))

-- ---- the cabinet

-- a Bool as a number
abbrev pub flag : Bool → ℕ
flag b = cond b 1 0

-- Each total is the count made afresh: W-208, "its unread words and its words in queues together", "one for each channel"; of a channel that
-- the outside reads, its words in queues.
pub record Totalled (t : Table) (totals : List ℕ) (c : Cabinet) : Type 0 where
  pub total-is : (k : ℕ) → k < length t.channels → slice_index totals k ≡ occupancy t c k
  pub totals-length : length totals ≡ channels_most

-- How many processes, queues and entries there are, whatever they are.
pub record Shaped (s : Store) (entries : List Entry) : Type 0 where
  pub processes-length : length s.processes ≡ processes_most
  pub queues-length : length s.queues ≡ boards_most
  pub entries-length : length entries ≡ entries_most

-- The store and the entries hold this cabinet of table t.
pub record Holds (t : Table) (s : Store) (entries : List Entry) (c : Cabinet) : Type 0 where
  pub processes : c.processes ≡ listed (process_in s) (length t.processes)
  pub outboxes : c.outboxes ≡ listed (outbox_in s.queues entries) t.boards
  pub dead : c.dead ≡ listed (dead_in s.queues) t.boards
  -- each process is kept, and each ring is one
  pub kept : (p : ℕ) → p < length t.processes → Kept (lists_at s p)
  -- each has its two boards of the table,
  pub seated : (p : ℕ) → p < length t.processes → Seated (placement_at t p).primary (placement_at t p).standby (lists_at s p)
  -- and whether a checkpoint or a transfer of it waits in its board's queue
  pub waits-is : (p : ℕ) → p < length t.processes → (lists_at s p).waits ≡ flag (waiting p (outbox_at c (process_at c p).board))
  pub first_small : (b : ℕ) → b < t.boards → first_in s.queues b < outbox_most
  pub count_small : (b : ℕ) → b < t.boards → count_in s.queues b ≤ outbox_most
  -- W-208: "After every move of a run, a crash included, each total equals the count made afresh."
  pub totalled : Totalled t s.totals c
  pub shape : Shaped s entries
