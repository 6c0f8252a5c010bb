-- Move 6 (document 02, W-210: "Move 6 returns board a with an empty queue; nothing runs there yet").
use Rattle.std.specs.Prelude.{List, ℕ}
use Rattle.plan.specs.Plan.{Plan}
use Rattle.process.specs.declared.process.Process.{Process}
use Rattle.rules.specs.Moves.{rejoin}
use Rattle.state.specs.declared.moved.Answer.{Answer}
use Rattle.state.specs.declared.store.Store.{Store}
use Rattle.state.specs.Moved.{MakesAlone, ABoard}

-- whatever the plan is, which it isn't lent, and whatever the processes and the totals are, which it leaves alone: of each store that has these
-- queues before, and these after
abbrev pub Rejoins : Store → ℕ → Store → Answer → Type 0
Rejoins s a s' r =
    (l : Plan) (processes : List Process) (totals : List ℕ)
    → MakesAlone rejoin (ABoard a) l (record s { processes = processes; totals = totals }) a (record s' { processes = processes; totals = totals }) r
