-- What the calls on one instruction promise: what it would do is what the rules' `local_step` says, and what it does makes the process
-- that the rules' `advanced` gives. Document 01: "Instructions, each moving the place on by one unless said".
use Rattle.std.specs.Prelude.{◌≡◌, ℕ, suc, ◌+◌, ◌%◌, ◌^◌, ◌<◌, ◌≤◌, true, cond, ◌≢◌, ◌⊎◌, List, length, ◌==◌, slice_index, slice_index_or, slice_set, ◌-◌}
use Rattle.facts.specs.Lists.{remove_at}
use Rattle.backup.specs.Limits.{pc_most, ports}
use Rattle.backup.specs.declared.place.Head.{Head}
use Rattle.rules.specs.Table.{Instruction, SET}
use Rattle.rules.specs.Machine.{Mail, Machine, Outcome, halted, no_mail, moved, internal, took, sent, booted, next, pull, nothing, found}
use Rattle.rules.specs.Machine.{execute, local_step}
use Rattle.rules.specs.Format.{instruction}
use Rattle.rules.specs.Moves.{advanced, counting, one_done, one_sent, one_taken}
use Rattle.process.specs.Row.{recorded, mail_in, mails_in, mail_at, machine_of, Kept}
use Rattle.process.specs.declared.process.Process.{Process}
use Rattle.process.specs.Change.{Became}
use Rattle.instruction.specs.Mailbox.{names}
use Rattle.instruction.specs.declared.instruction.Kind.{Kind}
use Rattle.instruction.specs.declared.instruction.Kind.TheVariants.{Calculation, Taking, Sending, Unknown}
use Rattle.instruction.specs.declared.instruction.Intent.{Intent}
use Rattle.instruction.specs.declared.instruction.Intent.TheVariants.{Halted, NoMail, Internal, Take, Send}

-- ---- the instruction at a process's place

-- what an accepted table says of an instruction's registers: "a at most 2" for FIRST; "Elsewhere a is 0 to 3, and ADD's operand too."
pub record InRange (code a operand : ℕ) : Type 0 where
  pub first : a < 4
  pub second : code ≡ 2 → operand < 4
  pub pair : code ≡ 4 → a < 3

-- A program of n instructions, 0 to 64, and the numbers of the one at the process's place, unless that is n.
pub record Fetched (program : List Instruction) (x : Process) (n code a operand : ℕ) : Type 0 where
  pub length-is : length program ≡ n
  pub few : n ≤ pc_most
  pub instruction-is : x.pc < n → slice_index_or program x.pc (SET 0 0) ≡ instruction code a operand
  pub in_range : x.pc < n → InRange code a operand

-- ---- what it would do

-- the codes of each kind; "with the rest refused"
abbrev pub Sorted : ℕ → Kind → Type 0
Sorted code Calculation = (code ≡ 1) ⊎ ((code ≡ 2) ⊎ (code ≡ 6))
Sorted code Taking = (code ≡ 3) ⊎ (code ≡ 4)
Sorted code Sending = code ≡ 5
Sorted code Unknown = ((((((code ≢ 1) × (code ≢ 2)) × (code ≢ 3)) × (code ≢ 4)) × (code ≢ 5)) × (code ≢ 6))

abbrev pub machine_after : Outcome → Machine
machine_after halted = booted
machine_after no_mail = booted
machine_after (moved m act) = m

-- the machine after a SET, an ADD or a JUMP
abbrev pub after_internal : ℕ → ℕ → ℕ → Machine → Machine
after_internal code a operand m = machine_after (execute (instruction code a operand) m)

-- after a TAKE or a FIRST of the word at a position of the mailbox: the word goes into register a, of a FIRST its channel into a + 1
abbrev pub loaded : ℕ → ℕ → Mail → List ℕ → List ℕ
loaded code a x registers = cond (code == 4) (slice_set (slice_set registers a x.word) (suc a) x.channel) (slice_set registers a x.word)

abbrev pub after_take : ℕ → ℕ → ℕ → Process → Machine
after_take code a at x =
    let m = machine_of x in
    next m (loaded code a (mail_at x at) m.registers) (remove_at at m.mailbox)

-- after a SEND
abbrev pub after_send : Machine → Machine
after_send m = next m m.registers m.mailbox

-- the outcome that an intent stands for
abbrev pub outcome_of : Process → ℕ → ℕ → ℕ → Intent → Outcome
outcome_of x code a operand Halted = halted
outcome_of x code a operand NoMail = no_mail
outcome_of x code a operand Internal = moved (after_internal code a operand (machine_of x)) internal
outcome_of x code a operand (Take at) = moved (after_take code a at x) (took (mail_at x at))
outcome_of x code a operand (Send channel word) = moved (after_send (machine_of x)) (sent (record { channel = channel; word = word }))

-- The intent is the instruction's: the rules' local step has its outcome, and the word that it would take is in the mailbox.
pub record Intends (program : List Instruction) (x : Process) (n code a operand : ℕ) (intent : Intent) : Type 0 where
  pub fetched : Fetched program x n code a operand
  pub outcome : local_step program (machine_of x) ≡ outcome_of x code a operand intent
  pub inside : (at : ℕ) → intent ≡ Take at → at < x.unread

abbrev pub Examined : Process → ℕ → ℕ → ℕ → ℕ → Intent → Type 0
Examined x n code a operand intent = (program : List Instruction) → Fetched program x n code a operand → Intends program x n code a operand intent

-- a TAKE or a FIRST, from the process's unread words
abbrev pub Sought : Process → ℕ → ℕ → Intent → Type 0
Sought x code operand Halted = ⊥
Sought x code operand NoMail = pull (names code operand) (mails_in x.oldest x.unread x.mail) ≡ nothing
Sought x code operand Internal = ⊥
Sought x code operand (Take at) =
    (at < x.unread)
    × (pull (names code operand) (mails_in x.oldest x.unread x.mail) ≡ found (mail_at x at) (remove_at at (mails_in x.oldest x.unread x.mail)))
Sought x code operand (Send channel word) = ⊥

-- ---- what it does to the process

-- what an act or an instruction of the process counts for: 1 where it is limited, and 0 where it is not
abbrev pub one_in : Process → ℕ
one_in x = cond (recorded x.protection) 1 0

-- one more of a counter that is counted on while the process is limited
abbrev pub tallied : Process → ℕ → ℕ
tallied x counter = (counter + one_in x) % 2 ^ 32

-- one more event, the next place, and an instruction more
abbrev pub event_in : Process → Process
event_in x = record x { events = tallied x x.events; pc = (x.pc + 1) % 2 ^ 32; instructions = tallied x x.instructions }

-- a word in its registers
abbrev pub registers_in : ℕ → ℕ → Mail → List ℕ → List ℕ
registers_in code a w registers =
    let one = slice_set registers (a % 4) w.word in
    cond (code == 4) (slice_set one (1 + a % 3) w.channel) one

abbrev pub loaded_in : ℕ → ℕ → ℕ → Process → Process
loaded_in code a w x = record x { registers = registers_in code a (mail_in w) x.registers }

-- What a SET, an ADD or a JUMP leaves in register a, and its next place, by what stood there, the sum of an ADD and the place behind it.
abbrev pub word_after : ℕ → ℕ → ℕ → ℕ → ℕ
word_after code old sum operand = cond (code == 6) old (cond (code == 1) operand sum)

abbrev pub place_after : ℕ → ℕ → ℕ → ℕ → ℕ
place_after code old next operand = cond (cond (code == 6) old 0 == 0) next operand

-- the process with register and next place stored
abbrev pub evaluated_in : ℕ → ℕ → ℕ → Process → Process
evaluated_in code a operand x =
    let old = slice_index x.registers (a % 4) in
    let sum = (old + slice_index x.registers (operand % 4)) % 2 ^ 32 in
    record x {
      registers = slice_set x.registers (a % 4) (word_after code old sum operand);
      pc = place_after code old ((x.pc + 1) % 2 ^ 32) operand;
    }

-- and an instruction more
abbrev pub computed_in : ℕ → ℕ → ℕ → Process → Process
computed_in code a operand x = let y = evaluated_in code a operand x in record y { instructions = tallied y y.instructions }

-- a SEND that was suppressed: one less to suppress, and the place moves on
abbrev pub suppressed_in : Process → Process
suppressed_in x = record x { suppress = (x.suppress + (2 ^ 32 - 1)) % 2 ^ 32; pc = (x.pc + 1) % 2 ^ 32 }

-- while the process is limited, one more of a counter is still a word
abbrev pub TallyRoom : Process → ℕ → Type 0
TallyRoom x counter = recorded x.protection ≡ true → counter + 1 < 2 ^ 32

-- A SET, an ADD or a JUMP was done: machine, and an instruction more that is counted.
abbrev pub Computes : Process → ℕ → ℕ → ℕ → Process → Type 0
Computes x code a operand x' =
    (program : List Instruction) (n : ℕ) → Kept x → Intends program x n code a operand Internal → TallyRoom x x.instructions
    → Became x x' (λ y. advanced (after_internal code a operand (machine_of x)) (counting one_done y) y.suppress y)

-- A word was taken that had come in on a port: machine, and what is counted. Nothing changes where no unread word stands there.
pub record Takes (x : Process) (code a at port : ℕ) (x' : Process) : Type 0 where
  pub untouched : x.unread ≤ at → x' ≡ x
  -- whatever its log and its head are, which stay
  pub became : (program : List Instruction) (n operand : ℕ) (log : List ℕ) (head : Head) → Kept (record x { log = log; head = head })
      → Intends program x n code a operand (Take at) → port < ports
      → TallyRoom x x.events → TallyRoom x (slice_index x.taken port) → TallyRoom x x.instructions
      → Became (record x { log = log; head = head }) (record x' { log = log; head = head })
      (λ y. advanced (after_take code a at x) (counting (one_taken port) y) y.suppress y)

-- A SEND was suppressed: machine, and one less to suppress.
abbrev pub Suppresses : Process → Process → Type 0
Suppresses x x' =
    (program : List Instruction) (n code a operand channel word left : ℕ) → Kept x → Intends program x n code a operand (Send channel word)
    → x.suppress ≡ suc left → Became x x' (λ y. advanced (after_send (machine_of x)) y.since left y)

-- A SEND was queued, there being none to suppress: machine, and what is counted.
abbrev pub Queues : Process → Process → Type 0
Queues x x' =
    (program : List Instruction) (n code a operand channel word : ℕ) → Kept x → Intends program x n code a operand (Send channel word)
    → x.suppress ≡ 0 → TallyRoom x x.events → TallyRoom x x.instructions
    → Became x x' (λ y. advanced (after_send (machine_of x)) (counting one_sent y) 0 y)
