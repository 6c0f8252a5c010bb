-- Move 5 (document 01: "crash board a: its queue is lost"; W-210: 44).
use Rattle.std.specs.Prelude.{ℕ, List}
use Rattle.plan.specs.declared.Plan.{Plan}
use Rattle.plan.specs.Plan.{plan_of}
use Rattle.rules.specs.Moves.{crash}
use Rattle.state.specs.declared.moved.Answer.{Answer}
use Rattle.state.specs.declared.store.Store.{Store}
use Rattle.state.specs.Moved.{MakesAlone, ABoard}

-- whatever the table's bytes are, which it isn't lent
abbrev pub Crashes : Plan → Store → ℕ → Store → Answer → Type 0
Crashes plan s a s' r = (table : List ℕ) → MakesAlone crash (ABoard a) (plan_of table plan) s a s' r
