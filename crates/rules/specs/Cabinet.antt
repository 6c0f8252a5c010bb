-- The cabinet's state, and what is read off it: outboxes, back-pressure, protection, quiescence (document 01, "The cabinet's moves").
use Rattle.std.specs.Prelude.{Bool, true, false, not, cond, ◌&&◌, ◌||◌, List, [], ◌∷◌, map, ℕ, suc, ◌+◌, eqb, ltb, leb, length, get_or, replicate}
use Rattle.std.proofs.Math.Option.{Option, none, some}
use Rattle.facts.specs.Tests.{any_below, all_of, all_below}
use Rattle.backup.specs.Replica.{Replica, Checkpoint, initial}
pub use Rattle.rules.specs.Sizes.{outbox_most, limit_most, instructions_most, occupancy_most, saved_most}
use Rattle.rules.specs.Table.{Table, Placement, environment, channel_at, placement_at, code_of, inputs, channel_on}
use Rattle.rules.specs.Machine.{Mail, Machine, booted, Outcome, halted, no_mail, moved, local_step}

-- ---- the state

-- the other half of a process: its backup, and the board that holds it
pub record Standby : Type 0 where
  pub board : ℕ
  pub replica : Replica
  -- false while it is being made: from a resync's issue until its entry is carried (W-210)
  pub complete : Bool

-- what is counted since the last checkpoint was issued
pub record Since : Type 0 where
  -- instructions done
  pub instructions : ℕ
  -- the receives and sends among them (acts)
  pub events : ℕ
  -- the receives, for each port (takes per slot)
  pub taken : List ℕ

pub record Process : Type 0 where
  pub machine : Machine
  -- the board it runs on
  pub board : ℕ
  -- sends still to be suppressed while the process rolls forward (document 01: hold-back)
  pub suppress : ℕ
  pub since : Since
  pub standby : Option Standby

-- "An entry of an outgoing queue is a word or a sync". A word names its channel and so, by the table, its sender; beside it stands "the place
-- of its SEND" (W-212). W-210: "its snapshot and copies of all its unread words join the queue as one entry", a state transfer to a new backup
-- (document 02: resync). It names the process: snapshot and copies stand in the record that is being made, which from issue on saves what
-- arrives.
pub data Item : Type 0 where
  message : Mail → ℕ → Item
  checkpoint : ℕ → Checkpoint → Item
  transfer : ℕ → Item

pub record Cabinet : Type 0 where
  pub processes : List Process
  -- one FIFO send queue for each board, oldest entry first (outgoing queues)
  pub outboxes : List (List Item)
  pub dead : List Bool

-- no receive on any port
abbrev pub no_takes : List ℕ
no_takes = 0 ∷ 0 ∷ 0 ∷ 0 ∷ []

-- nothing counted yet
abbrev pub none_since : Since
none_since = record { instructions = 0; events = 0; taken = no_takes }

-- "each process on its primary board, [..] each backup record as it starts, all else 0"
unfoldable pub placed : Placement → Process
unfolding booted
placed x = record {
  machine = booted;
  board = x.primary;
  suppress = 0;
  since = none_since;
  standby = some (record { board = x.standby; replica = initial; complete = true });
}

-- "every board live, [..] inboxes and queues empty"
unfoldable pub started : Table → Cabinet
unfolding placed
started t = record {
  processes = map placed t.processes;
  outboxes = replicate t.boards [];
  dead = replicate t.boards false;
}

-- ---- reading it

-- stands for a process that the table doesn't have
unfoldable pub nobody : Process
unfolding booted
nobody = record { machine = booted; board = 0; suppress = 0; since = none_since; standby = none }

abbrev pub process_at : Cabinet → ℕ → Process
process_at c p = get_or c.processes p nobody

abbrev pub outbox_at : Cabinet → ℕ → List Item
outbox_at c b = get_or c.outboxes b []

abbrev pub dead_at : Cabinet → ℕ → Bool
dead_at c b = get_or c.dead b false

abbrev pub is_some : {A : Type 0} → Option A → Bool
is_some none = false
is_some (some a) = true

abbrev pub is_complete : Option Standby → Bool
is_complete none = false
is_complete (some s) = s.complete

-- has a live backup (backed). W-210: "Until the entry is carried the process has no backup."
abbrev pub protected : Process → Bool
protected x = is_complete x.standby

-- "A backed process has acts": its events and instructions are counted, and limited by 37; what arrives for it is saved. W-210: "from then on
-- 37 limits the process as if it were backed", from a resync's issue on.
abbrev pub limited : Process → Bool
limited x = is_some x.standby

-- "its other table board": of its two boards of the table the one on which it doesn't run now
abbrev pub other_board : Table → ℕ → Process → ℕ
other_board t p x = cond (eqb x.board (placement_at t p).primary) (placement_at t p).standby (placement_at t p).primary

-- "while some process has no backup"
unfoldable pub some_unbacked : Cabinet → Bool
unfolding nobody
some_unbacked c = any_below (λ p. not (protected (process_at c p))) (length c.processes)

-- "37 if backed and acts are 8"; W-207: for 8 stands the process's own limit
unfoldable pub exhausted : ℕ → Process → Bool
exhausted limit x = limited x && leb limit x.since.events

-- W-204: "64 instructions done since its last sync was issued". "A process without a backup owes nothing."
unfoldable pub overrun : Process → Bool
overrun x = limited x && leb instructions_most x.since.instructions

-- "A backed process now also owes a sync": for its acts, or for its instructions
unfoldable pub owing : ℕ → Process → Bool
unfolding exhausted overrun
owing limit x = exhausted limit x || overrun x

-- how many unread words of a mailbox are of channel k
abbrev pub unread_on : ℕ → List Mail → ℕ
unread_on k [] = 0
unread_on k (x ∷ l) =
    let others = unread_on k l in
    cond (eqb k x.channel) (suc others) others

-- W-210: "Those copies count on no channel, neither for 39 and 49 nor in the totals."
abbrev pub is_on : ℕ → Item → Bool
is_on k (message x pc) = eqb k x.channel
is_on k (checkpoint p s) = false
is_on k (transfer p) = false

-- how many words of channel k wait in an outbox, and in all of them
abbrev pub queued_on : ℕ → List Item → ℕ
queued_on k [] = 0
queued_on k (x ∷ l) =
    let others = queued_on k l in
    cond (is_on k x) (suc others) others

abbrev pub in_flight : ℕ → List (List Item) → ℕ
in_flight k [] = 0
in_flight k (q ∷ qs) = queued_on k q + in_flight k qs

-- unread and in flight on a channel
unfoldable pub occupancy : Table → Cabinet → ℕ → ℕ
unfolding nobody
occupancy t c k = unread_on k (process_at c (channel_at t k).reader).machine.mailbox + in_flight k c.outboxes

-- A channel's back-pressure (held). "A channel read by the outside is never held."
unfoldable pub full : Table → Cabinet → ℕ → Bool
unfolding occupancy
full t c k = not (eqb (channel_at t k).reader environment) && leb occupancy_most (occupancy t c k)

-- "on one channel it reads, more than 8 words unread and in queues together"
unfoldable pub crowded : Table → Cabinet → ℕ → Bool
unfolding occupancy inputs
crowded t c p = any_below (λ i. ltb occupancy_most (occupancy t c (channel_on t p i))) (length (inputs t p))

-- an entry of which process p may have but one waiting: a sync, or a resync, "41 (for a waiting resync too)"
abbrev pub is_waiter_of : ℕ → Item → Bool
is_waiter_of p (message x pc) = false
is_waiter_of p (checkpoint q s) = eqb p q
is_waiter_of p (transfer q) = eqb p q

abbrev pub waiting : ℕ → List Item → Bool
waiting p [] = false
waiting p (x ∷ l) = is_waiter_of p x || waiting p l

-- ---- quiet

-- halted, or waits for a word
abbrev pub idle : Outcome → Bool
idle halted = true
idle no_mail = true
idle (moved m a) = false

abbrev pub is_empty : {A : Type 0} → List A → Bool
is_empty [] = true
is_empty (x ∷ l) = false

-- "Quiet: each process is halted or would answer 36, and no queue has an entry."
unfoldable pub quiescent : Table → Cabinet → Bool
unfolding local_step nobody
quiescent t c =
    all_below (λ p. idle (local_step (code_of t p) (process_at c p).machine)) (length c.processes) && all_of is_empty c.outboxes
