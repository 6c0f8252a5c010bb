-- The backup record as a value, and each of its calls as a total function: document 01, "The backup record".
-- "A value: up to 48 saved words with slots, count, place, registers." The sizes are those of Limits, since W-207 64 words and a count of 32;
-- the sentences below have document 01's.
use Rattle.std.specs.Prelude.{ℕ, zero, suc, ◌-◌, Bool, cond, not, ◌&&◌, ltb, List, [], ◌∷◌, ◌++◌, length, ◌==◌, nat_le, nat_lt, slice_index, slice_set}
use Rattle.facts.specs.Tests.{any_below, all_of}
use Rattle.backup.specs.Limits.{log_most, ports, sent_most, pc_most}

-- a message of the log (document 01: a saved word, with its slot)
pub record Message : Type 0 where
  pub port : ℕ
  pub word : ℕ

-- Passive replica of a process: checkpoint, message log and suppression count (document 01: backup record).
pub record Replica : Type 0 where
  -- messages received since the checkpoint, oldest first (saved words)
  pub log : List Message
  -- messages transmitted since the checkpoint (count)
  pub sent : ℕ
  -- program counter (place)
  pub pc : ℕ
  pub registers : List ℕ

-- State of a process at the moment of issue (document 01: sync, snapshot): "registers, place, takes per slot since the last issue".
pub record Checkpoint : Type 0 where
  pub pc : ℕ
  pub registers : List ℕ
  -- how many messages were taken on port 0, on port 1, and so on
  pub taken : List ℕ

-- What a call replies: 0 or the refusal's number, and the value afterwards.
pub record Reply : Type 0 where
  pub number : ℕ
  pub replica : Replica

-- ---- new

-- four registers, all 0
abbrev pub no_registers : List ℕ
no_registers = 0 ∷ 0 ∷ 0 ∷ 0 ∷ []

-- "It starts with no words and the rest 0."
abbrev pub initial : Replica
initial = record { log = []; sent = 0; pc = 0; registers = no_registers }

-- ---- what every call checks first

abbrev pub on_ports : List Message → Bool
on_ports log = all_of (λ m. ltb m.port ports) log

-- "A record unfit on entry (over 48 words, slot over 3, count over 16, place over 64) is 20, first of all."
unfoldable pub fit : Replica → Bool
fit r = nat_le (length r.log) log_most && (on_ports r.log && (nat_le r.sent sent_most && nat_le r.pc pc_most))

-- "Refused, it comes back unchanged": the old value where there is a number, the new one where there is none.
abbrev pub answer : ℕ → Replica → Replica → Reply
answer zero old new = record { number = zero; replica = new }
answer (suc n) old new = record { number = suc n; replica = old }

-- ---- arrive

abbrev pub arrived : Replica → ℕ → ℕ → Replica
arrived r port word =
    record { log = r.log ++ (record { port = port; word = word } ∷ []); sent = r.sent; pc = r.pc; registers = r.registers }

-- "Arrive: 21 slot over 3, 22 forty-eight saved."
unfoldable pub arrive_number : Replica → ℕ → ℕ
arrive_number r port = cond (not (fit r)) 20 (cond (nat_le ports port) 21 (cond (nat_le log_most (length r.log)) 22 0))

unfoldable pub arrive : Replica → ℕ → ℕ → Reply
arrive r port word = answer (arrive_number r port) r (arrived r port word)

-- ---- count

abbrev pub counted : Replica → Replica
counted r = record { log = r.log; sent = suc r.sent; pc = r.pc; registers = r.registers }

-- "Count: 24 at 16."
unfoldable pub count_number : Replica → ℕ
count_number r = cond (not (fit r)) 20 (cond (nat_le sent_most r.sent) 24 0)

unfoldable pub count : Replica → Reply
count r = answer (count_number r) r (counted r)

-- ---- sync

-- how many messages of a log came in on a port
abbrev pub saved_on : ℕ → List Message → ℕ
saved_on p [] = 0
saved_on p (m ∷ log) =
    let others = saved_on p log in
    cond (p == m.port) (suc others) others

-- how many messages were taken on a port
abbrev pub taken_on : List ℕ → ℕ → ℕ
taken_on taken p = slice_index taken p

-- one take less on a port
abbrev pub one_less : List ℕ → ℕ → List ℕ
one_less taken p = slice_set taken p (taken_on taken p - 1)

-- "drops the oldest saved words slot by slot as taken": from the oldest on, a message goes while takes of its port are left,
-- and stays otherwise
abbrev pub remaining : List ℕ → List Message → List Message
remaining taken [] = []
remaining taken (m ∷ log) =
    let stays = m ∷ remaining taken log in
    let goes = remaining (one_less taken m.port) log in
    cond (taken_on taken m.port == 0) stays goes

-- "more taken on a slot than saved"
abbrev pub lacking : List ℕ → List Message → Bool
lacking taken log = any_below (λ p. ltb (saved_on p log) (taken_on taken p)) ports

-- "A sync replaces the state in the process's backup record, drops the oldest saved words slot by slot as taken, and zeroes the count."
abbrev pub synced : Replica → Checkpoint → Replica
synced r c = record { log = remaining c.taken r.log; sent = 0; pc = c.pc; registers = c.registers }

-- "Sync: 21 place over 64, 23 more taken on a slot than saved."
unfoldable pub sync_number : Replica → Checkpoint → ℕ
sync_number r c = cond (not (fit r)) 20 (cond (nat_lt pc_most c.pc) 21 (cond (lacking c.taken r.log) 23 0))

unfoldable pub sync : Replica → Checkpoint → Reply
sync r c = answer (sync_number r c) r (synced r c)

-- ---- take over

-- What a promotion hands over (document 01: take over): "it returns words, place, registers, count".
pub record FailOver : Type 0 where
  pub number : ℕ
  pub log : List Message
  pub pc : ℕ
  pub registers : List ℕ
  pub sent : ℕ

-- "Take over: only 20; [..] when refused no words and the rest 0."
unfoldable pub fail_over : Replica → FailOver
fail_over r =
    cond (fit r)
    (record { number = 0; log = r.log; pc = r.pc; registers = r.registers; sent = r.sent })
    (record { number = 20; log = []; pc = 0; registers = no_registers; sent = 0 })
