-- What every move promises: of a store that holds a cabinet, the answer is the rules', and the store holds the rules' cabinet afterwards; and of
-- any store at all, that a refused move leaves it as it was.
use Rattle.std.specs.Prelude.{◌≡◌, ℕ, ◌<◌, ◌≤◌, List, length, ◌≢◌, slice_set, Option, Some, None}
use Rattle.numbers.specs.declared.answers.Reason.{Reason}
use Rattle.numbers.specs.Answers.{code_in, cause_in}
use Rattle.process.specs.Change.{MailStays, BackupStays}
use Rattle.rules.specs.Table.{Table}
use Rattle.rules.specs.Judge.{Accepted}
use Rattle.rules.specs.Cabinet.{Cabinet, started}
use Rattle.rules.specs.Moves.{Command, Result, settle, numbers, numbered, run_from}
use Rattle.rules.specs.Reasons.{cause_of}
use Rattle.plan.specs.Plan.{Plan, Planned}
use Rattle.rules.specs.Sizes.{entries_most}
use Rattle.state.specs.declared.entry.Entry.{Entry}
use Rattle.state.specs.declared.moved.Answer.{Answer}
use Rattle.state.specs.declared.moved.Moved.{Moved}
use Rattle.state.specs.declared.store.Store.{Store}
use Rattle.state.specs.Store.{Holds, blank_entry, lists_at}

-- ---- answers

-- three numbers and a cause
abbrev pub answer_of : ℕ → ℕ → ℕ → ℕ → Answer
answer_of code cause a word = record { code = code; cause = cause; a = a; word = word }

abbrev pub refusal_of : ℕ → ℕ → ℕ → Answer
refusal_of code cause a = answer_of code cause a 0

-- for a reason
abbrev pub answer_for : Reason → ℕ → ℕ → Answer
answer_for reason a word = answer_of (code_in reason) (cause_in reason) a word

abbrev pub refusal_for : Reason → ℕ → Answer
refusal_for reason a = refusal_of (code_in reason) (cause_in reason) a

-- whatever its a and word are, its code and cause are those of a reason: no other pair is answered
pub record Reasoned (answer : Answer) : Type 0 where
  pub reason : Reason
  pub reason-is : answer ≡ answer_for reason answer.a answer.word

-- an answer, and where an entry joins
abbrev pub moved_of : Answer → Option ℕ → Moved
moved_of answer at = record { answer = answer; at = at }

-- no entry joins a queue
abbrev pub alone_of : Answer → Moved
alone_of answer = moved_of answer None

abbrev pub refused_with : ℕ → ℕ → ℕ → Moved
refused_with code cause a = alone_of (refusal_of code cause a)

abbrev pub refused_for : Reason → ℕ → Moved
refused_for reason a = alone_of (refusal_for reason a)

-- ---- entries

-- with an entry put at a place, or as they are where there is none
abbrev pub joined : List Entry → Option ℕ → Entry → List Entry
joined entries None entry = entries
joined entries (Some at) entry = slice_set entries at entry

-- ---- what a move makes

-- The cabinet is one that a list of commands reaches on an accepted table.
pub record Reachable (t : Table) (c : Cabinet) : Type 0 where
  pub accepted : Accepted t
  pub commands : List Command
  pub is-reached : c ≡ (run_from t (started t) commands).cabinet

-- one move of the rules, as the code made it: the answer's numbers and its cause, and the cabinet that the store holds afterwards
pub record Answered (t : Table) (s : Store) (entries : List Entry) (c : Cabinet) (command : Command) (result : Result)
    (answer : Answer) : Type 0 where
  pub answer-is : numbers (settle c command result).answer ≡ numbered answer.code answer.a answer.word
  pub cause_is : cause_of (settle c command result).answer ≡ answer.cause
  pub holds : Holds t s entries (settle c command result).cabinet

-- ---- what a move leaves as it is, on every path, whatever the store holds

-- of each process its mailbox
abbrev pub MailsStay : Store → Store → Type 0
MailsStay s s' = (p : ℕ) → MailStays (lists_at s p) (lists_at s' p)

-- of each process its backup's log and head
abbrev pub BackupsStay : Store → Store → Type 0
BackupsStay s s' = (p : ℕ) → BackupStays (lists_at s p) (lists_at s' p)

-- a store whose arrays are as long as they were
pub record SameLengths (s s' : Store) : Type 0 where
  pub processes-same : length s'.processes ≡ length s.processes
  pub queues-same : length s'.queues ≡ length s.queues
  pub totals-same : length s'.totals ≡ length s.totals

-- The move that the rules call `rule`, of the process, board or channel a, made on a store s that is then s'. `asks` is what it supposes of
-- a, and of the entries; `entry` is the one that joins a queue by it, and `joins` the code of the answer that says so.
pub record Makes (rule : Table → Cabinet → ℕ → Result) (asks : Table → List Entry → Type 0) (joins : ℕ) (l : Plan) (s : Store) (a : ℕ)
    (entry : Entry)
    (s' : Store) (r : Moved) : Type 0 where
  -- of a plan that is the table's, and of a store that holds a cabinet which commands reach
  pub made : (t : Table) (entries : List Entry) (c : Cabinet) (command : Command) → Reachable t c → Planned t l → Holds t s entries c
      → command.a ≡ a → asks t entries → Answered t s' (joined entries r.at entry) c command (rule t c a) r.answer
  -- of any store: the answer is one for a reason, what is refused leaves the store as it was, an answer with no entry stores none, one with an
  -- entry stores it at a place of the queues' rings, and the store's arrays stay as long as they were
  pub reasoned : Reasoned r.answer
  pub untouched : 32 ≤ r.answer.code → s' ≡ s
  pub none_joins : (r.answer.code ≢ joins) → r.at ≡ None
  pub at-inside : (k : ℕ) → r.at ≡ Some k → k < entries_most
  pub same_lengths : SameLengths s s'

-- a move by which no entry joins, whatever it answers
abbrev pub MakesAlone : (Table → Cabinet → ℕ → Result) → (Table → List Entry → Type 0) → Plan → Store → ℕ → Store → Answer → Type 0
MakesAlone rule asks l s a s' r = Makes rule asks 0 l s a blank_entry s' (alone_of r)

-- what a move asks of a, where it is a process's number, a board's or a channel's
abbrev pub AProcess : ℕ → Table → List Entry → Type 0
AProcess a t entries = a < length t.processes

abbrev pub ABoard : ℕ → Table → List Entry → Type 0
ABoard a t entries = a < t.boards

abbrev pub AChannel : ℕ → Table → List Entry → Type 0
AChannel a t entries = a < length t.channels
