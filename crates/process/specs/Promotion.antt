-- What a crash makes of one process: how it goes on as its backup.
use Rattle.std.specs.Prelude.{◌≡◌, Bool, cond, ◌&&◌, List, [], ◌∷◌, map, ℕ, ◌%◌, ◌<◌, eqb, length, get_or}
use Rattle.backup.specs.Limits.{log_most, ports}
use Rattle.backup.specs.Replica.{Message}
use Rattle.backup.specs.Place.{messages}
use Rattle.backup.specs.declared.place.Promotion.{Promotion}
use Rattle.rules.specs.Table.{Table, channel_on}
use Rattle.rules.specs.Machine.{Mail}
use Rattle.rules.specs.Cabinet.{Process, no_takes}
use Rattle.rules.specs.Moves.{promoted, after_crash}
use Rattle.process.specs.Row.{recorded, standby_in, mails_in, process_of, Kept, Seated}
use Rattle.process.specs.declared.process.Process as code

-- a message with its port's channel in the port's place
abbrev pub readdressed : List ℕ → Message → Mail
readdressed channels m = record { channel = get_or channels (m.port % 4) 0; word = m.word }

-- a mailbox made of the first len messages of a log, from place 0 on
pub record Readdressed (mail log : List ℕ) (len : ℕ) (channels mail' : List ℕ) : Type 0 where
  pub same_length : length mail' ≡ length mail
  pub mails : length mail ≡ log_most → mails_in 0 len mail' ≡ map (readdressed channels) (messages len log)

-- the process that goes on from a promotion, but for its mailbox
abbrev pub restored_in : code.Process → Promotion → code.Process
restored_in x p = record x {
  board = x.standby;
  standby = x.board;
  pc = p.pc;
  registers = p.r0 ∷ p.r1 ∷ p.r2 ∷ p.r3 ∷ [];
  suppress = p.sent;
  events = 0;
  taken = no_takes;
  instructions = 0;
  protection = 0;
  waits = 0;
  oldest = 0;
  unread = p.len;
}

-- these are the channels of a process's ports
abbrev pub Routes : Table → ℕ → List ℕ → Type 0
Routes t p channels = (i : ℕ) → i < ports → channel_on t p i ≡ get_or channels i 0

-- Whether the crash of board b promotes a process: it has a record, and runs there.
abbrev pub promoted_by : ℕ → code.Process → Bool
promoted_by b x = recorded x.protection && eqb x.board b

-- As `Became`; and the number of what waits of it afterwards.
pub record BecameAtCrash (x x' : code.Process) (change : Process → Process) (waits : ℕ) : Type 0 where
  pub process-is : process_of x' ≡ change (process_of x)
  pub kept_again : Kept x'
  pub seated_again : (a b : ℕ) → Seated a b x → Seated a b x'
  pub waits-is : x'.waits ≡ waits

-- the process goes on as the standby that it shows; what waited of it is lost with its board's queue
abbrev pub Promoted : code.Process → code.Process → List ℕ → Type 0
Promoted x x' channels =
    Kept x → (t : Table) (p : ℕ) → Routes t p channels → BecameAtCrash x x' (λ y. promoted t p (standby_in x)) 0

-- What the crash of board b makes of it. Document 01: "its queue is lost".
abbrev pub Crashed : code.Process → code.Process → ℕ → List ℕ → Type 0
Crashed x x' b channels =
    Kept x → (t : Table) (p : ℕ) → Routes t p channels
    → BecameAtCrash x x' (λ y. after_crash t b p y y.standby) (cond (promoted_by b x) 0 x.waits)
