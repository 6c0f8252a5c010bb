-- The parts of move 1: what a step looks at first, and a step that computes, takes a word or sends one.
-- Document 01: "For TAKE and FIRST: 36 no such word, then 37 if backed and acts are 8. For a SEND not held back: 37 likewise, 38 queue
-- full, 39 held." W-204: "a sync after 64 instructions [..]. Every kind of instruction then answers 37".
use Rattle.std.specs.Prelude.{◌≡◌, ℕ, ◌%◌, ◌<◌, Bool, true, false, cond, ◌&&◌, ◌||◌, List, length, ◌==◌, nat_le}
use Rattle.instruction.specs.Instruction.{Intends, Computes, computed_in}
use Rattle.instruction.specs.declared.instruction.Intent.{Intent}
use Rattle.instruction.specs.declared.instruction.Intent.TheVariants.{Internal, Take, Send}
use Rattle.plan.specs.declared.Counts.{Counts}
use Rattle.plan.specs.declared.Plan as code
use Rattle.plan.specs.declared.Program.{Program}
use Rattle.plan.specs.Plan.{Plan, plan_of}
use Rattle.rules.specs.Table.{Table, code_of, limit_of}
use Rattle.rules.specs.Cabinet.{instructions_most}
use Rattle.rules.specs.Moves.{step}
use Rattle.state.specs.declared.entry.Entry.{Entry}
use Rattle.state.specs.declared.entry.Item.TheVariants.{Word}
use Rattle.state.specs.declared.moved.Answer.{Answer}
use Rattle.state.specs.declared.moved.Moved.{Moved}
use Rattle.state.specs.declared.queue.Queue.{Queue}
use Rattle.state.specs.declared.store.Store.{Store}
use Rattle.state.specs.Store.{lists_at}
use Rattle.state.specs.Beside.{with_backups, with_lists}
use Rattle.state.specs.Moved.{Makes, answer_for, alone_of, refused_for}
use Rattle.numbers.specs.declared.answers.Reason.{Reason}
use Rattle.numbers.specs.declared.answers.Reason.TheVariants as reasons
use Rattle.numbers.specs.declared.answers.Reason.TheVariants.{NoWordForTake, NoWordForFirst, OwesForActs, OwesForInstructions}
use Rattle.process.specs.declared.process.Process.{Process}
use Rattle.process.specs.Row.{recorded}

-- "if backed and acts are 8"; W-207: with its limit for 8
abbrev pub exhausted_in : ℕ → Process → Bool
exhausted_in limit x = recorded x.protection && nat_le limit x.events

-- W-204: "64 instructions done since its last sync was issued"
abbrev pub overrun_in : Process → Bool
overrun_in x = recorded x.protection && nat_le instructions_most x.instructions

-- a sync is owed
abbrev pub owing_in : ℕ → Process → Bool
owing_in limit x = exhausted_in limit x || overrun_in x

-- W-206: "Code 37: 1 when only the 64 instructions are to blame", of a process that owes a sync
abbrev pub blame_in : ℕ → Process → Reason
blame_in limit x = cond (exhausted_in limit x) OwesForActs OwesForInstructions

-- W-206: "Code 36: 1 for FIRST.", by the instruction's code
abbrev pub missing_of : ℕ → Reason
missing_of code = cond (code == 4) NoWordForFirst NoWordForTake

-- The entry that joins: a queued word, which the answer shows, and "the place of its SEND" (W-212),
abbrev pub sent_as : Answer → ℕ → Entry
sent_as answer place = record { item = Word answer.a answer.word place }

-- that of the process before the step. A place is at most 64 and fits a byte.
abbrev pub word_entry : Store → ℕ → Answer → Entry
word_entry s a answer = sent_as answer ((lists_at s a).pc % 256)

-- what a part of a step is given: process a is one of the table's, its limit is this one, and the instruction at its place has this intent
pub record Intending (t : Table) (limit a : ℕ) (s : Store) (n code register operand : ℕ) (intent : Intent) : Type 0 where
  pub process-there : a < length t.processes
  pub limit_is : limit_of t a ≡ limit
  pub intends : Intends (code_of t a) (lists_at s a) n code register operand intent

-- what such a part makes of a store, and the entry that joins by it
abbrev pub Turns : Plan → Store → ℕ → ℕ → ℕ → ℕ → ℕ → ℕ → Intent → Entry → Store → Moved → Type 0
Turns l s limit a n code register operand intent entry s' r =
    Makes step (λ t entries. Intending t limit a s n code register operand intent) 2 l s a entry s' r

-- Process a computes, and what exactly becomes of it, whatever its mailbox and its backup are; where its instructions are used up it is refused,
-- and stays as it is.
abbrev pub Calculated : Bool → Process → ℕ → ℕ → ℕ → ℕ → Process → Moved → Type 0
Calculated true x a code register operand x' r = (x' ≡ x) × (r ≡ refused_for OwesForInstructions a)
Calculated false x a code register operand x' r =
    (x' ≡ computed_in code register operand x) × (Computes x code register operand x' × (r ≡ alone_of (answer_for reasons.Calculated 0 0)))

abbrev pub Calculates : Process → ℕ → ℕ → ℕ → ℕ → Process → Moved → Type 0
Calculates x = Calculated (overrun_in x) x

-- What that makes of the store, whatever the plan and the limit are, and whatever mailboxes and backups the processes have and the queues and the
-- totals are, none of which it looks at.
abbrev pub CalculateTurns : Store → ℕ → ℕ → ℕ → ℕ → Store → Moved → Type 0
CalculateTurns s a code register operand s' r =
    (l : Plan) (others : ℕ → Process) (queues : List Queue) (totals : List ℕ) (limit n : ℕ)
    → Turns l (record (with_lists others s) { queues = queues; totals = totals }) limit a n code register operand Internal
    (word_entry s a r.answer)
    (record (with_lists others s') { queues = queues; totals = totals }) r

-- Process a's instruction, where a's limit is this one, takes the word at a position of its mailbox: whatever the counts and the programs are, and
-- whatever backups the processes have and the queues are, none of which it looks at.
abbrev pub TakeTurns : code.Plan → Store → ℕ → ℕ → ℕ → ℕ → ℕ → Store → Moved → Type 0
TakeTurns plan s limit a code register at s' r =
    (table : List ℕ) (counts : Counts) (programs : List Program) (others : ℕ → Process) (queues : List Queue) (n operand : ℕ)
    → Turns (plan_of table (record plan { counts = counts; programs = programs })) (record (with_backups others s) { queues = queues }) limit a n code
    register
    operand
    (Take at)
    (word_entry s a r.answer)
    (record (with_backups others s') { queues = queues }) r

-- Process a's instruction sends a word to a channel: whatever the counts and the programs are, and whatever mailboxes and backups the processes
-- have, none of which it looks at.
abbrev pub SendTurns : code.Plan → Store → ℕ → ℕ → ℕ → ℕ → Store → Moved → Type 0
SendTurns plan s limit a channel word s' r =
    (table : List ℕ) (counts : Counts) (programs : List Program) (others : ℕ → Process) (n code register operand : ℕ)
    → Turns (plan_of table (record plan { counts = counts; programs = programs })) (with_lists others s) limit a n code register operand
    (Send channel word)
    (word_entry s a r.answer)
    (with_lists others s') r
