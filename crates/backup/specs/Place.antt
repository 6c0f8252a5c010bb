-- A backup in place: how a log, a list of numbers, and a head stand for the value, and what every call in place promises.
use Rattle.std.specs.Prelude.{◌≡◌, ℕ, ◌+◌, ◌-◌, ◌*◌, ◌/◌, ◌%◌, ◌^◌, ◌<◌, ◌≤◌, Bool, true, false, cond, ltb, List, [], ◌∷◌, map, length, Result, Ok, Err, ◌≢◌, nat_le, nat_lt, slice_index, slice_index_or}
use Rattle.std.proofs.Common.{arith}
use Rattle.words.specs.Words.{pack, high_in, low_in}
use Rattle.facts.specs.Tests.{any_below}
use Rattle.facts.specs.Lists.{prefix}
use Rattle.numbers.specs.declared.backup.BackupRefusal.{BackupRefusal}
use Rattle.numbers.specs.Backup.{number_in}
use Rattle.backup.specs.Limits.{log_most, ports, sent_most, pc_most}
use Rattle.backup.specs.Replica.{Message, Replica, Reply, FailOver, initial, sync, fit, on_ports, saved_on, taken_on, remaining, lacking}
use Rattle.backup.specs.Replica as value
use Rattle.backup.specs.Rounds.{all_taken}
use Rattle.backup.specs.Report.{Report, none_by_port, no_report, sync_report, total_dropped}
use Rattle.backup.specs.declared.place.Head.{Head}
use Rattle.backup.specs.declared.place.Checkpoint.{Checkpoint}
use Rattle.backup.specs.declared.place.Promotion.{Promotion}
use Rattle.backup.specs.declared.place.Landed.{Landed}
use Rattle.backup.specs.declared.place.Metered.{Metered}

-- a message is one number: its port the higher word, its word the lower (words' `pack`)
abbrev pub port_in : ℕ → ℕ
port_in x = high_in x

abbrev pub word_in : ℕ → ℕ
word_in x = low_in x

abbrev pub unpack : ℕ → Message
unpack x = record { port = port_in x; word = word_in x }

-- a message packed and unpacked is itself
pub unpack-pack : (port word : ℕ) → word < 2 ^ 32 → unpack (pack port word) ≡ record { port = port; word = word }
unpack-pack port word h =
    let a : (port * 4294967296 + word) / 4294967296 ≡ port = omega arith in
    let b : (port * 4294967296 + word) % 4294967296 ≡ word = omega arith in
    λ i. record { port = a i; word = b i }

-- the first n messages of a log
abbrev pub messages : ℕ → List ℕ → List Message
messages n log = map unpack (prefix n log)

-- The code's Head is the definitions' too: that its numbers are of 32 bits is said by its type in the code and needed nowhere here, and that its
-- tallies are four is said by `Sound`.

-- how many messages a head says that there are on port p
abbrev pub tally_in : Head → ℕ → ℕ
tally_in head p = slice_index head.saved p

-- the value that a log and a head stand for
unfoldable pub view_in : List ℕ → Head → Replica
view_in log head = record {
  log = messages head.len log;
  sent = head.sent;
  pc = head.pc;
  registers = head.r0 ∷ head.r1 ∷ head.r2 ∷ head.r3 ∷ [];
}

-- what the calls in place keep: the value is fit, and the head's tallies say how many messages came in on each port
pub record Sound (log : List ℕ) (head : Head) : Type 0 where
  pub log-length : length log ≡ log_most
  pub saved-length : length head.saved ≡ ports
  pub is-fit : fit (view_in log head) ≡ true
  pub tallies : (p : ℕ) → p < ports → tally_in head p ≡ saved_on p (view_in log head).log

-- behind the messages that there were and those that there are, no number of a log is written
abbrev pub SameBehind : List ℕ → ℕ → List ℕ → ℕ → Type 0
SameBehind log len log' len' = (i : ℕ) → len ≤ i → len' ≤ i → slice_index log' i ≡ slice_index log i

-- What a call in place promises, from log and head at entry and at exit, the number of what it returned, and the definition that it follows.
pub record Called (log : List ℕ) (head : Head) (log' : List ℕ) (head' : Head) (number : ℕ) (call : Replica → Reply) : Type 0 where
  -- refused: both are as they were
  pub untouched : (number ≢ 0) → (log' ≡ log) × (head' ≡ head)
  -- of a sound backup: the definition's number and value, and it is sound again
  pub number_is : Sound log head → number ≡ (call (view_in log head)).number
  pub value_is : Sound log head → view_in log' head' ≡ (call (view_in log head)).replica
  pub sound_again : Sound log head → Sound log' head'
  pub same-behind : Sound log head → SameBehind log head.len log' head'.len

-- the code's checkpoint as the definitions' one
abbrev pub taken_of : Checkpoint → List ℕ
taken_of c = c.t0 ∷ c.t1 ∷ c.t2 ∷ c.t3 ∷ []

abbrev pub checkpoint_of : Checkpoint → value.Checkpoint
checkpoint_of c = record { pc = c.pc; registers = c.r0 ∷ c.r1 ∷ c.r2 ∷ c.r3 ∷ []; taken = taken_of c }

-- ---- a fresh backup in place

-- the head of a record as it starts: zeros, whatever the log has
abbrev pub fresh_head : Head
fresh_head = record { len = 0; sent = 0; pc = 0; r0 = 0; r1 = 0; r2 = 0; r3 = 0; saved = none_by_port }

pub record Fresh (log : List ℕ) (head : Head) : Type 0 where
  pub value_is : view_in log head ≡ initial
  pub is-sound : Sound log head

-- ---- the number of what a call in place returns, of any head, sound or not

abbrev pub arrive_number_in : Head → ℕ → ℕ
arrive_number_in head port = cond (nat_le ports port) 21 (cond (nat_le log_most head.len) 22 0)

abbrev pub count_number_in : Head → ℕ
count_number_in head = cond (nat_le sent_most head.sent) 24 0

-- more was taken on some port than its tally says
abbrev pub lacks_in : Head → List ℕ → Bool
lacks_in head taken = any_below (λ p. ltb (tally_in head p) (taken_on taken p)) ports

-- a log said to be longer than its array is 20, first of all
abbrev pub sync_number_in : Head → Checkpoint → ℕ
sync_number_in head c = cond (nat_lt log_most head.len) 20 (cond (nat_lt pc_most c.pc) 21 (cond (lacks_in head (taken_of c)) 23 0))

-- ---- what the steps of a checkpoint in place do

-- What was taken is dropped: of len messages on their ports, with no more taken on one than it has, the log's first numbers are what a drop
-- leaves. From len on the log is as it was.
pub record Dropped (log : List ℕ) (len : ℕ) (taken : List ℕ) (log' : List ℕ) : Type 0 where
  pub same_length : length log' ≡ length log
  pub rest : length log ≡ log_most → on_ports (messages len log) ≡ true → lacking taken (messages len log) ≡ false
      → messages (len - all_taken taken) log' ≡ remaining taken (messages len log)
  pub behind : (i : ℕ) → len ≤ i → slice_index log' i ≡ slice_index log i

-- the head after a checkpoint, but for how many messages stay: its state, no count, and the tallies less what was taken
unfoldable pub restated_in : Head → Checkpoint → Head
restated_in head c = record head {
  sent = 0;
  pc = c.pc;
  r0 = c.r0;
  r1 = c.r1;
  r2 = c.r2;
  r3 = c.r3;
  saved = (tally_in head 0 - c.t0) ∷ (tally_in head 1 - c.t1) ∷ (tally_in head 2 - c.t2) ∷ (tally_in head 3 - c.t3) ∷ [];
}

-- a head that says another length of its log
abbrev pub with_len : Head → ℕ → Head
with_len head n = record head { len = n }

-- what a sync in place reports; all 0 where it was refused
abbrev pub report_of : Result Landed BackupRefusal → Report
report_of (Ok l) = record { dropped = l.dropped; remained = l.remained }
report_of (Err r) = no_report

-- what one that was done reports, from the head afterwards
abbrev pub landed_in : Head → Checkpoint → Landed
landed_in head c = record { dropped = taken_of c; remained = head.saved }

-- of a sync with its rounds counted: what it reports, and the rounds, none where it was refused
abbrev pub landed_by : Result Metered BackupRefusal → Result Landed BackupRefusal
landed_by (Ok m) = Ok m.landed
landed_by (Err r) = Err r

abbrev pub rounds_in : Result Metered BackupRefusal → ℕ
rounds_in (Ok m) = m.rounds
rounds_in (Err r) = 0

-- what a sync in place reports: refused, all 0, whatever log and head are; of a sound backup what the definition says
pub record Reports (log : List ℕ) (head : Head) (c : Checkpoint) (r : Result Landed BackupRefusal) : Type 0 where
  pub refused_none : (number_in r ≢ 0) → report_of r ≡ no_report
  pub report-is : Sound log head → report_of r ≡ sync_report (view_in log head) (checkpoint_of c)

-- a sync in place that says only how many messages it dropped, on all ports together: there is a report, and n is its total
pub record Totals (log : List ℕ) (head : Head) (c : Checkpoint) (log' : List ℕ) (head' : Head) (n : ℕ) : Type 0 where
  pub landed : Result Landed BackupRefusal
  pub called : Called log head log' head' (number_in landed) (λ v. sync v (checkpoint_of c))
  pub reports : Reports log head c landed
  pub total-is : n ≡ total_dropped (report_of landed) % 2 ^ 32

-- ---- take over in place

-- what a promotion reads off the head
abbrev pub promotion_in : Head → Promotion
promotion_in head = record {
  len = head.len;
  sent = head.sent;
  pc = head.pc;
  r0 = head.r0;
  r1 = head.r1;
  r2 = head.r2;
  r3 = head.r3;
}

-- what a promotion and the log that it was read beside hand over
abbrev pub handed_over : List ℕ → Promotion → FailOver
handed_over log r = record {
  number = 0;
  log = messages r.len log;
  pc = r.pc;
  registers = r.r0 ∷ r.r1 ∷ r.r2 ∷ r.r3 ∷ [];
  sent = r.sent;
}

-- message i of what is handed over
abbrev pub message_at : FailOver → ℕ → Message
message_at f i = slice_index_or f.log i (unpack 0)
