-- How much there is at most of anything in a cabinet, in every state that a list of commands reaches from the start, and that a backup
-- never refuses there: what code with lists of fixed lengths rests on.
-- Definitions only; proofs/Reached.antt and proofs/Outboxes.antt prove them.
use Rattle.std.specs.Prelude.{◌≢◌, ◌≡◌, false, cond, List, [], ◌∷◌, map, ℕ, ◌*◌, ◌≤◌, ◌<◌, max, eqb, length}
use Rattle.std.proofs.Math.Option.{some}
use Rattle.facts.specs.Counts.{total}
use Rattle.backup.specs.Replica.{Message, Checkpoint, counted, taken_on, remaining, arrive_number, count_number, sync_number, fail_over}
use Rattle.rules.specs.Table.{Table, environment, channel_at, code_of, limit_of, inputs, port_of, channel_on}
use Rattle.rules.specs.Machine.{Mail}
use Rattle.rules.specs.Cabinet.{outbox_most, limit_most, instructions_most, occupancy_most, saved_most, Standby, Item, message, checkpoint}
use Rattle.rules.specs.Cabinet.{transfer, Cabinet, no_takes, process_at, outbox_at, dead_at, queued_on, in_flight, occupancy, full}

-- saved words as an inbox: "the saved words as inbox"
abbrev pub mails : Table → ℕ → List Message → List Mail
mails t p log = map (λ (m : Message). record { channel = channel_on t p m.port; word = m.word }) log

-- the takes of process p's checkpoint that waits in an outbox, and none if none waits
abbrev pub issued_takes : ℕ → List Item → List ℕ
issued_takes p [] = no_takes
issued_takes p (message x pc ∷ q) = issued_takes p q
issued_takes p (checkpoint r s ∷ q) = cond (eqb p r) s.taken (issued_takes p q)
issued_takes p (transfer r ∷ q) = issued_takes p q

-- The backup of process p, which is s, inside cabinet c.
pub record BackupBounds (t : Table) (c : Cabinet) (p : ℕ) (s : Standby) : Type 0 where
  -- it stands on a live board of the table, and not on the process's own
  pub board : s.board < t.boards
  pub live : dead_at c s.board ≡ false
  pub apart : s.board ≢ (process_at c p).board
  -- W-207: "at most 32 plus twice the limit saved words"
  pub log : length s.replica.log ≤ saved_most (limit_of t p)
  -- "a count of at most twice the limit"
  pub sent_twice : s.replica.sent ≤ 2 * limit_of t p
  -- sharper: it never passes the limit itself
  pub sent : s.replica.sent ≤ limit_of t p
  -- "37 if backed and acts are 8", the limit since W-207
  pub events : (process_at c p).since.events ≤ limit_of t p
  -- W-204: "after 64 instructions done since its last sync was issued"
  pub instructions : (process_at c p).since.instructions ≤ instructions_most
  -- "takes per slot since the last issue"
  pub taken : (port : ℕ) → taken_on (process_at c p).since.taken port ≤ limit_of t p
  -- "A channel is held when its unread words and those in the queues are 8 or more together."
  pub occupied : (k : ℕ) → (channel_at t k).reader ≡ p → occupancy t c k ≤ occupancy_most
  -- the saved words, less those taken since the backup's state, are the inbox
  pub saved : mails t p (remaining (process_at c p).since.taken
      (remaining (issued_takes p (outbox_at c (process_at c p).board)) s.replica.log)) ≡ (process_at c p).machine.mailbox
  -- no call of the backup is refused. "A word goes [..] to the sender's backup record, which counts it":
  pub counts : (b : ℕ) (x : Mail) (pc : ℕ) (rest : List Item) → outbox_at c b ≡ message x pc ∷ rest → (channel_at t x.channel).sender ≡ p
      → count_number s.replica ≡ 0
  -- "to [..] the reader's backup record". "Where a process sends to itself, its one record saves the word and counts it."
  pub arrives : (b : ℕ) (x : Mail) (pc : ℕ) (rest : List Item) → outbox_at c b ≡ message x pc ∷ rest → (channel_at t x.channel).reader ≡ p
      → arrive_number (cond (eqb (channel_at t x.channel).sender p) (counted s.replica) s.replica) (port_of t p x.channel) ≡ 0
  -- "feed outside channel a with a word: to the inbox and the backup record"
  pub feeds : (k : ℕ) → (channel_at t k).sender ≡ environment → (channel_at t k).reader ≡ p → full t c k ≡ false
      → arrive_number s.replica (port_of t p k) ≡ 0
  -- "A sync replaces the state in the process's backup record"
  pub syncs : (b : ℕ) (x : Checkpoint) (rest : List Item) → outbox_at c b ≡ checkpoint p x ∷ rest → sync_number s.replica x ≡ 0
  -- "Each process running there goes on at its backup board"
  pub promotes : (fail_over s.replica).number ≡ 0

-- Process p of cabinet c.
pub record Bounds (t : Table) (c : Cabinet) (p : ℕ) : Type 0 where
  -- it runs on a live board of the table
  pub board : (process_at c p).board < t.boards
  pub live : dead_at c (process_at c p).board ≡ false
  -- "Place n means halted."
  pub pc : (process_at c p).machine.pc ≤ length (code_of t p)
  -- "a limit byte, 1 to 16": so that what follows is at most 64 words, as many as a record holds, and a count of at most 32
  pub limit : limit_of t p ≤ limit_most
  -- "the saved words as inbox": it has no more words than a saved list
  pub mailbox : length (process_at c p).machine.mailbox ≤ saved_most (limit_of t p)
  -- "the count as hold-back"
  pub suppress : (process_at c p).suppress ≤ limit_of t p
  -- unread and in flight, over its channels, where each stands for 8 at least
  pub occupied : total (λ k. max (occupancy t c k) occupancy_most) (inputs t p) ≤ saved_most (limit_of t p)
  pub backup : (s : Standby) → (process_at c p).standby ≡ some s → BackupBounds t c p s

-- "each board has one queue, at most 32 entries"
abbrev pub OutboxBounds : Cabinet → Type 0
OutboxBounds c = (b : ℕ) → length (outbox_at c b) ≤ outbox_most

-- Channel k of cabinet c. "its unread words and those in the queues": those in the queues all wait in the queue of its sender's board.
pub record ChannelBounds (t : Table) (c : Cabinet) (k : ℕ) : Type 0 where
  pub queued : in_flight k c.outboxes ≡ queued_on k (outbox_at c (process_at c (channel_at t k).sender).board)
  pub few : in_flight k c.outboxes ≤ outbox_most
