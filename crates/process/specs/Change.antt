-- What the calls on one process promise: what they make of it is what the rules make of it, and what is kept of it is kept again. What waits in a
-- queue is none of their concern.
use Rattle.std.specs.Prelude.{◌≡◌, true, ℕ, ◌≤◌, ◌<◌}
use Rattle.std.proofs.Math.Option.{Option}
use Rattle.backup.specs.Limits.{log_most}
use Rattle.backup.specs.Replica.{Replica, Reply, Checkpoint}
use Rattle.backup.specs.Place.{Sound}
use Rattle.rules.specs.Table.{Table, port_of}
use Rattle.rules.specs.Cabinet.{Process, Standby, protected}
use Rattle.rules.specs.Moves.{receive, dropped_from}
use Rattle.process.specs.Row.{standby_of, process_of, Kept, Seated}
use Rattle.process.specs.declared.process.Process as code

-- from the process at entry and at exit, and the rules' function
pub record Became (x x' : code.Process) (change : Process → Process) : Type 0 where
  pub process-is : process_of x' ≡ change (process_of x)
  pub kept_again : Kept x'
  pub seated_again : (a b : ℕ) → Seated a b x → Seated a b x'
  pub waits_again : x'.waits ≡ x.waits

-- of a call, for each process that is kept
abbrev pub Changes : code.Process → code.Process → (Process → Process) → Type 0
Changes x x' change = Kept x → Became x x' change

-- ---- what a call leaves as it is, on every path, whatever the process

-- the mailbox
abbrev pub MailStays : code.Process → code.Process → Type 0
MailStays x x' = x'.mail ≡ x.mail

-- the backup's log and head
pub record BackupStays (x x' : code.Process) : Type 0 where
  pub log-stays : x'.log ≡ x.log
  pub head-stays : x'.head ≡ x.head

-- the mailbox, and the backup's log and head
pub record ListsStay (x x' : code.Process) : Type 0 where
  pub mail-stays : MailStays x x'
  pub backup-stays : BackupStays x x'

-- all but the backup's log and head
abbrev pub BackupAlone : code.Process → code.Process → Type 0
BackupAlone x x' = x' ≡ record x { log = x'.log; head = x'.head }

-- all but the backup's head
abbrev pub HeadAlone : code.Process → code.Process → Type 0
HeadAlone x x' = x' ≡ record x { head = x'.head }

-- ---- the calls

-- A call of the backup, on the record of a process that has one, or on a backup that is complete: the rules' `on_replica` or `on_backup`. All
-- else of the process is as it was.
pub record Backed (x x' : code.Process) (on : (Replica → Reply) → Option Standby → Option Standby) (call : Replica → Reply) : Type 0 where
  pub backup-alone : BackupAlone x x'
  pub standby-is : Sound x.log x.head → standby_of x' ≡ on call (standby_of x)
  pub sound_again : Sound x.log x.head → Sound x'.log x'.head

-- how many messages a landing checkpoint drops from a backup, by the rules
abbrev pub Drops : code.Process → Checkpoint → ℕ → Type 0
Drops x c dropped = Kept x → protected (process_of x) ≡ true → dropped ≡ dropped_from c (process_of x).standby

-- a word was received on a port; a full mailbox takes none, and nothing changes
pub record Received (x x' : code.Process) (port channel word : ℕ) : Type 0 where
  pub untouched : log_most ≤ x.unread → x' ≡ x
  pub became : Kept x → x.unread < log_most → (t : Table) (p : ℕ) → port_of t p channel ≡ port
      → Became x x' (receive t p (record { channel = channel; word = word }))
