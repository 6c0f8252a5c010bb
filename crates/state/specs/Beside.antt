-- Stores that are as the lent one in all that a call looks at or writes, and otherwise anything. A move's contract is said of each of them: what
-- it promises doesn't hang on the parts that are lent to it and that it leaves alone.
use Rattle.std.specs.Prelude.{ℕ, List, length, slice_index_or}
use Rattle.facts.specs.Lists.{listed}
use Rattle.process.specs.declared.process.Process.{Process}
use Rattle.process.specs.Row.{no_process}
use Rattle.state.specs.declared.store.Store.{Store}

-- a process with the backup of another: its log and its head
abbrev pub other_backup : Process → Process → Process
other_backup x other = record x { log = other.log; head = other.head }

-- with its mailbox too
abbrev pub other_lists : Process → Process → Process
other_lists x other = record x { mail = other.mail; log = other.log; head = other.head }

-- every process with such a part of the one that has its number among others
abbrev pub each_with : (Process → Process → Process) → (ℕ → Process) → List Process → List Process
each_with part others l = listed (λ p. part (slice_index_or l p no_process) (others p)) (length l)

-- the store with these backups,
abbrev pub with_backups : (ℕ → Process) → Store → Store
with_backups others s = record s { processes = each_with other_backup others s.processes }

-- and with these mailboxes and backups
abbrev pub with_lists : (ℕ → Process) → Store → Store
with_lists others s = record s { processes = each_with other_lists others s.processes }
