use Rattle.backup_lent.proofs.Looking.{Looked}
use Rattle.backup_lent.proofs.census.Given as goal

abbrev pub invariant-loop-i : goal.invariant-loop-i
invariant-loop-i l = Looked l.saved l.len l.n l.i
