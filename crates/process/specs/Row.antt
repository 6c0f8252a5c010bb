-- How the code's process stands for a process of the rules, and what is kept of it.
use Rattle.std.specs.Prelude.{◌≡◌, Bool, not, cond, List, [], ℕ, ◌+◌, ◌%◌, ◌≤◌, ◌<◌, ◌^◌, eqb, length, get_or, replicate}
use Rattle.std.proofs.Math.Option.{Option, none, some}
use Rattle.facts.specs.Lists.{listed}
use Rattle.words.specs.Words.{pack, high_in, low_in}
use Rattle.backup.specs.Limits.{log_most, ports}
use Rattle.backup.specs.Place.{view_in, Sound, fresh_head}
use Rattle.backup.specs.declared.place.Checkpoint.{Checkpoint}
use Rattle.backup.specs.declared.place.Head.{Head}
use Rattle.rules.specs.Machine.{Mail, Machine}
use Rattle.rules.specs.Cabinet.{Process, Standby, no_takes}
use Rattle.process.specs.declared.process.Process as code

-- ---- a mailbox

-- A mailbox is a ring: where in it the word at a position stands, whose oldest word, at position 0, stands at place `first`.
abbrev pub place_in : ℕ → ℕ → ℕ
place_in first i = (first + i) % log_most

-- a word on a channel as one number
abbrev pub pack_mail : ℕ → ℕ → ℕ
pack_mail channel word = pack channel word

abbrev pub mail_in : ℕ → Mail
mail_in x = record { channel = high_in x; word = low_in x }

-- the number at a position of a mailbox
abbrev pub packed_at : ℕ → List ℕ → ℕ → ℕ
packed_at first mail i = get_or mail (place_in first i) 0

-- the n words of a mailbox from place `first` on
abbrev pub mails_in : ℕ → ℕ → List ℕ → List Mail
mails_in first n mail = listed (λ i. mail_in (packed_at first mail i)) n

-- the word at a position of a process's mailbox
abbrev pub mail_at : code.Process → ℕ → Mail
mail_at x i = mail_in (packed_at x.oldest x.mail i)

-- ---- its backup, by its protection: 0 for none, 1 for a backup, and otherwise a record that is being made

-- whether there is one (document 01: backed)
abbrev pub backed : ℕ → Bool
backed protection = eqb protection 1

-- whether there is a record: a backup, or one that is being made (W-210: from a resync's issue until its carry)
abbrev pub recorded : ℕ → Bool
recorded protection = not (eqb protection 0)

-- the standby that a process shows, whether or not it has a record
abbrev pub standby_in : code.Process → Standby
standby_in x = record { board = x.standby; replica = view_in x.log x.head; complete = backed x.protection }

unfoldable pub standby_of : code.Process → Option Standby
standby_of x = cond (recorded x.protection) (some (standby_in x)) none

-- ---- the process

-- whether something of it waits in a queue: not where the number is 0
abbrev pub waiting_in : ℕ → Bool
waiting_in waits = not (eqb waits 0)

-- past the end of a list of them: no list has an element
abbrev pub no_head : Head
no_head = record { len = 0; sent = 0; pc = 0; r0 = 0; r1 = 0; r2 = 0; r3 = 0; saved = [] }

abbrev pub no_process : code.Process
no_process = record {
  board = 0;
  standby = 0;
  pc = 0;
  registers = [];
  suppress = 0;
  events = 0;
  taken = [];
  instructions = 0;
  protection = 0;
  waits = 0;
  oldest = 0;
  unread = 0;
  mail = [];
  log = [];
  head = no_head;
}

-- one of zeros, the code's NO_PROCESS: its backup is a record as it starts
abbrev pub zero_process : code.Process
zero_process = record {
  board = 0;
  standby = 0;
  pc = 0;
  registers = replicate 4 0;
  suppress = 0;
  events = 0;
  taken = replicate 4 0;
  instructions = 0;
  protection = 0;
  waits = 0;
  oldest = 0;
  unread = 0;
  mail = replicate log_most 0;
  log = replicate log_most 0;
  head = fresh_head;
}

unfoldable pub machine_of : code.Process → Machine
machine_of x = record { registers = x.registers; pc = x.pc; mailbox = mails_in x.oldest x.unread x.mail }

-- whether something of it waits is no part of it: the rules look into the queue
unfoldable pub process_of : code.Process → Process
unfolding machine_of standby_of
process_of x = record {
  machine = machine_of x;
  board = x.board;
  suppress = x.suppress;
  since = record { instructions = x.instructions; events = x.events; taken = x.taken };
  standby = standby_of x;
}

-- the process as a checkpoint
unfoldable pub checkpoint_in : code.Process → Checkpoint
checkpoint_in x = record {
  pc = x.pc;
  r0 = get_or x.registers 0 0;
  r1 = get_or x.registers 1 0;
  r2 = get_or x.registers 2 0;
  r3 = get_or x.registers 3 0;
  t0 = get_or x.taken 0 0;
  t1 = get_or x.taken 1 0;
  t2 = get_or x.taken 2 0;
  t3 = get_or x.taken 3 0;
}

-- one since whose last checkpoint there was nothing
abbrev pub anew_in : code.Process → code.Process
anew_in x = record x { events = 0; taken = no_takes; instructions = 0 }

-- one whose record is a backup, if it has a record
abbrev pub completed_in : code.Process → code.Process
completed_in x = record x { protection = cond (recorded x.protection) 1 x.protection }

-- ---- what is kept

-- What is kept of a process: its lists' lengths, that its mailbox is a ring's, that a counter is a word of 32 bits,
-- that its protection is one of three, and the backup's soundness.
pub record Kept (x : code.Process) : Type 0 where
  pub registers-length : length x.registers ≡ 4
  pub taken-length : length x.taken ≡ ports
  pub mail-length : length x.mail ≡ log_most
  pub unread : x.unread ≤ log_most
  pub oldest : x.oldest < log_most
  pub events : x.events < 2 ^ 32
  pub taken : (i : ℕ) → get_or x.taken i 0 < 2 ^ 32
  pub instructions : x.instructions < 2 ^ 32
  pub flag : x.protection ≤ 2
  pub sound : Sound x.log x.head

-- Of its two boards of the table, a and b, it runs on one, and the other is its backup's: a promotion swaps the two.
pub record Seated (a b : ℕ) (x : code.Process) : Type 0 where
  pub runs_on : x.board ≡ cond (eqb x.standby a) b a
  pub other-is : x.standby ≡ cond (eqb x.board a) b a
