-- What a stand-by has to do again after a crash before it is where the primary was. W-204: "a customer's checksum loop took too long to redo
-- after a crash."
-- Definitions only; proofs/RollForward.antt proves `RollsForward` of every crash in every state that commands reach.
use Rattle.std.specs.Prelude.{◌≡◌, List, ℕ, zero, suc, ◌+◌, ◌*◌, ◌≤◌}
use Rattle.std.proofs.Math.Option.{Option, none, some}
use Rattle.rules.specs.Table.{Table, Instruction, code_of, limit_of}
use Rattle.rules.specs.Machine.{Machine, Act, internal, took, sent, Outcome, halted, no_mail, moved, local_step}
use Rattle.rules.specs.Cabinet.{instructions_most, Cabinet, process_at}

-- where some instructions lead, and how many of them were acts
pub record Redone : Type 0 where
  pub machine : Machine
  pub acts : ℕ

-- a take and a send are acts
abbrev pub acts_of : Act → ℕ
acts_of internal = 0
acts_of (took x) = 1
acts_of (sent x) = 1

abbrev pub and_acts : Act → Option Redone → Option Redone
and_acts k none = none
and_acts k (some r) = some (record { machine = r.machine; acts = acts_of k + r.acts })

-- an instruction that is done, and those after it
abbrev pub go_on : (Machine → Option Redone) → Outcome → Option Redone
go_on rest halted = none
go_on rest no_mail = none
go_on rest (moved m k) = and_acts k (rest m)

-- n instructions one after the other; none where one of them can't be done
unfoldable pub redo : List Instruction → ℕ → Machine → Option Redone
unfolding local_step
redo code zero m = some (record { machine = m; acts = 0 })
redo code (suc n) m = go_on (redo code n) (local_step code m)

-- A crash has made cabinet d of cabinet c: process p, as it goes on in d, does these instructions again and is as it was in c, its registers,
-- its place and its inbox.
pub record RollsForward (t : Table) (c d : Cabinet) (p : ℕ) : Type 0 where
  pub instructions : ℕ
  pub acts : ℕ
  pub redone : redo (code_of t p) instructions (process_at d p).machine ≡ some (record { machine = (process_at c p).machine; acts = acts })
  -- 64 since its last sync was issued, and 64 between that one and the one before, where the last one was not carried yet
  pub few-instructions : instructions ≤ 2 * instructions_most
  -- and of these twice the limit
  pub few-acts : acts ≤ 2 * limit_of t p
