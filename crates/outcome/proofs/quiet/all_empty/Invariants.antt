use Rattle.facts.specs.Walks.{Walked}
use Rattle.outcome.specs.Quiets.{empty_in}
use Rattle.outcome.proofs.quiet.all_empty.Given as goal

abbrev pub invariant-loop-b : goal.invariant-loop-b
invariant-loop-b l = Walked (empty_in l.queues) l.n l.b
