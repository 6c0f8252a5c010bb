use Rattle.table.proofs.Walk.{Going}
use Rattle.table.proofs.instructions.instructions_ok.Given as goal

abbrev pub invariant-loop-p : goal.invariant-loop-p
invariant-loop-p l = Going l.table l.at l.p
