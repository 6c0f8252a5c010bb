use Rattle.facts.specs.Walks.{Walked}
use Rattle.rules.specs.Judge.{limit_ok}
use Rattle.plan.specs.Plan.{limit_in}
use Rattle.table.proofs.boards.limits_ok.Given as goal

abbrev pub invariant-loop-p : goal.invariant-loop-p
invariant-loop-p l = Walked (λ q. limit_ok (limit_in l.programs q)) l.processes l.p
