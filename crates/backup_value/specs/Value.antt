-- The backup by value: how the code's struct stands for the value, and what every call by value promises.
use Rattle.std.specs.Prelude.{◌≡◌, true, List, [], ◌∷◌, ℕ, get_or, Result, Ok, Err}
use Rattle.numbers.specs.declared.backup.BackupRefusal.{BackupRefusal}
use Rattle.numbers.specs.Backup.{number_of, number_in}
use Rattle.backup.specs.Replica as value
use Rattle.backup.specs.Replica.{Replica, fit, no_registers}
use Rattle.backup.specs.Report.{Report, no_report}
use Rattle.backup.specs.Place.{messages}
use Rattle.backup_value.specs.declared.Backup.{Backup}
use Rattle.backup_value.specs.declared.Synced.{Synced}
use Rattle.backup_value.specs.declared.Metered.{Metered}

-- the value that the struct stands for: its first len messages, whatever lies beyond them in the array
unfoldable pub view : Backup → Replica
view b = record {
  log = messages b.len b.log;
  sent = b.sent;
  pc = b.pc;
  registers = b.r0 ∷ b.r1 ∷ b.r2 ∷ b.r3 ∷ [];
}

-- what a promotion hands over; "when refused no words and the rest 0"
unfoldable pub promoted_by : Result Backup BackupRefusal → value.FailOver
unfolding view
promoted_by (Ok b) = record { number = 0; log = (view b).log; pc = b.pc; registers = (view b).registers; sent = b.sent }
promoted_by (Err r) = record { number = number_of r; log = []; pc = 0; registers = no_registers; sent = 0 }

-- a sync's answer without its rounds, and these, none where it was refused
abbrev pub synced_by : Result Metered BackupRefusal → Result Synced BackupRefusal
synced_by (Ok m) = Ok m.synced
synced_by (Err r) = Err r

abbrev pub rounds_by : Result Metered BackupRefusal → ℕ
rounds_by (Ok m) = m.rounds
rounds_by (Err r) = 0

-- a sync's answer as that of any call, and what it reports: "all 0 when refused"
abbrev pub backup_by : Result Synced BackupRefusal → Result Backup BackupRefusal
backup_by (Ok s) = Ok s.backup
backup_by (Err r) = Err r

abbrev pub reported_of : Result Synced BackupRefusal → Report
reported_of (Ok s) = record { dropped = s.dropped; remained = s.remained }
reported_of (Err r) = no_report

-- the backup after a call: refused, the very one that it was called on, since a call by value has but a copy
abbrev pub after : Backup → Result Backup BackupRefusal → Backup
after b (Ok next) = next
after b (Err r) = b

-- What a call by value promises of any backup, fit or not, against the definition that it follows.
pub record Answered (b : Backup) (r : Result Backup BackupRefusal) (call : Replica → value.Reply) : Type 0 where
  pub number_is : number_in r ≡ (call (view b)).number
  pub value_is : view (after b r) ≡ (call (view b)).replica
  -- refused: the very same struct stays
  pub untouched : (number_in r ≡ 0 → ⊥) → after b r ≡ b
  pub fit_again : fit (view b) ≡ true → fit (view (after b r)) ≡ true

-- ---- laid out and put together

-- the head of a struct
abbrev pub head_of : Backup → List ℕ
head_of b = b.len ∷ b.sent ∷ b.pc ∷ b.r0 ∷ b.r1 ∷ b.r2 ∷ b.r3 ∷ []

-- the struct of a log and a head
abbrev pub backup_of : List ℕ → List ℕ → Backup
backup_of log head = record {
  log = log;
  len = get_or head 0 0;
  sent = get_or head 1 0;
  pc = get_or head 2 0;
  r0 = get_or head 3 0;
  r1 = get_or head 4 0;
  r2 = get_or head 5 0;
  r3 = get_or head 6 0;
}
