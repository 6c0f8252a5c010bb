-- Move 1 (document 01: "step process a: one instruction").
use Rattle.std.specs.Prelude.{ℕ, List}
use Rattle.plan.specs.declared.Counts.{Counts}
use Rattle.plan.specs.declared.Plan as code
use Rattle.plan.specs.Plan.{plan_of}
use Rattle.process.specs.declared.process.Process.{Process}
use Rattle.rules.specs.Moves.{step}
use Rattle.state.specs.declared.moved.Moved.{Moved}
use Rattle.state.specs.declared.store.Store.{Store}
use Rattle.state.specs.Beside.{with_backups}
use Rattle.state.specs.Moved.{Makes, AProcess}
use Rattle.step.specs.Parts.{word_entry}

-- Whatever the counts are, and whatever backups the processes have, none of which it looks at; a word that joins a queue answers 2, which shows
-- it.
abbrev pub Steps : List ℕ → code.Plan → Store → ℕ → Store → Moved → Type 0
Steps table plan s a s' r =
    (counts : Counts) (others : ℕ → Process)
    → Makes step (AProcess a) 2 (plan_of table (record plan { counts = counts })) (with_backups others s) a (word_entry s a r.answer)
    (with_backups others s') r
