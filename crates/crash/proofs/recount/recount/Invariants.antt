use Rattle.crash.specs.Recount.{Recounted}
use Rattle.crash.proofs.recount.recount.Given as goal

abbrev pub invariant-loop-k : goal.invariant-loop-k
invariant-loop-k l = Recounted l.way l.k l.plan.wires l.processes l.initial.totals l.totals
