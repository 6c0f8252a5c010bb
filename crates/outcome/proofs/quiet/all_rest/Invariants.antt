use Rattle.outcome.proofs.Quieting.{Resting}
use Rattle.outcome.proofs.quiet.all_rest.Given as goal

abbrev pub invariant-loop-p : goal.invariant-loop-p
invariant-loop-p l = Resting l.table l.plan l.store l.p
