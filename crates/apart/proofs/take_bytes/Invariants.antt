use Rattle.apart.proofs.Storing.{BytesTaken}
use Rattle.apart.proofs.take_bytes.Given as goal

abbrev pub invariant-loop-k : goal.invariant-loop-k
invariant-loop-k l = BytesTaken l.initial.out l.table l.at l.n l.out l.k
