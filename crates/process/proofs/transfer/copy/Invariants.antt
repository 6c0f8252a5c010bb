use Rattle.process.proofs.Transferring.{Copying}
use Rattle.process.proofs.transfer.copy.Given as goal

abbrev pub invariant-loop-i : goal.invariant-loop-i
invariant-loop-i l = Copying l.mail l.first l.len l.wires l.initial.log l.initial.head l.log l.head l.i
