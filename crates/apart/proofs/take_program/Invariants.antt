use Rattle.apart.proofs.Storing.{ProgramTaken}
use Rattle.apart.proofs.take_program.Given as goal

abbrev pub invariant-loop-k : goal.invariant-loop-k
invariant-loop-k l = ProgramTaken l.initial.out l.table l.at l.n l.i l.out l.k
