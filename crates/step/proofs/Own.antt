-- What moves 1 and 2 and the parts of a step promise of the plan and the store that they are lent. Its namesake in specs/ says it of every plan and
-- store that differ from these only where the call doesn't look.
use Rattle.std.proofs.Common.{◌≡◌, ℕ, Bool, true, false, List}
use Rattle.instruction.specs.Instruction.{Computes}
use Rattle.instruction.specs.declared.instruction.Intent.TheVariants.{Internal, Take, Send}
use Rattle.plan.specs.declared.Plan as code
use Rattle.plan.specs.Plan.{Plan, plan_of}
use Rattle.numbers.specs.declared.answers.Reason.TheVariants.{Calculated, OwesForInstructions}
use Rattle.process.specs.declared.process.Process.{Process}
use Rattle.rules.specs.Moves.{step, issue}
use Rattle.state.specs.declared.moved.Moved.{Moved}
use Rattle.state.specs.declared.store.Store.{Store}
use Rattle.state.specs.Moved.{Makes, AProcess, answer_for, alone_of, refused_for}
use Rattle.step.specs.Issues.{sync_entry}
use Rattle.step.specs.Parts.{word_entry, Turns}

-- a step,
abbrev pub StepsOwn : List ℕ → code.Plan → Store → ℕ → Store → Moved → Type 0
StepsOwn table plan s a s' r = Makes step (AProcess a) 2 (plan_of table plan) s a (word_entry s a r.answer) s' r

-- a sync,
abbrev pub IssuesOwn : Store → ℕ → Store → Moved → Type 0
IssuesOwn s a s' r = (l : Plan) → Makes issue (AProcess a) 0 l s a (sync_entry s a) s' r

-- what becomes of a process that computes, as the rules change it
abbrev pub CalculatedOwn : Bool → Process → ℕ → ℕ → ℕ → ℕ → Process → Moved → Type 0
CalculatedOwn true x a code register operand x' r = (x' ≡ x) × (r ≡ refused_for OwesForInstructions a)
CalculatedOwn false x a code register operand x' r = Computes x code register operand x' × (r ≡ alone_of (answer_for Calculated 0 0))

-- and the parts of a step: a SET, an ADD or a JUMP,
abbrev pub CalculateTurnsOwn : Store → ℕ → ℕ → ℕ → ℕ → Store → Moved → Type 0
CalculateTurnsOwn s a code register operand s' r =
    (l : Plan) (limit n : ℕ) → Turns l s limit a n code register operand Internal (word_entry s a r.answer) s' r

-- a TAKE or a FIRST,
abbrev pub TakeTurnsOwn : code.Plan → Store → ℕ → ℕ → ℕ → ℕ → ℕ → Store → Moved → Type 0
TakeTurnsOwn plan s limit a code register at s' r =
    (table : List ℕ) (n operand : ℕ) → Turns (plan_of table plan) s limit a n code register operand (Take at) (word_entry s a r.answer) s' r

-- and a SEND
abbrev pub SendTurnsOwn : code.Plan → Store → ℕ → ℕ → ℕ → ℕ → Store → Moved → Type 0
SendTurnsOwn plan s limit a channel word s' r =
    (table : List ℕ) (n code register operand : ℕ)
    → Turns (plan_of table plan) s limit a n code register operand (Send channel word) (word_entry s a r.answer) s' r
