use Rattle.process.proofs.Readdressing.{Filling}
use Rattle.process.proofs.promotion.readdress.Given as goal

abbrev pub invariant-loop-i : goal.invariant-loop-i
invariant-loop-i l = Filling l.initial.mail l.log l.len l.channels l.mail l.i
