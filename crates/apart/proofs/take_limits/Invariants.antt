use Rattle.apart.proofs.Walking.{LimitsTaken}
use Rattle.apart.proofs.take_limits.Given as goal

abbrev pub invariant-loop-p : goal.invariant-loop-p
invariant-loop-p l = LimitsTaken l.table l.at l.version l.processes l.initial.limits l.limits l.next l.p
