use Rattle.outcome.proofs.Reporting.{Reporting}
use Rattle.outcome.proofs.report.write_report.Given as goal

abbrev pub invariant-loop-p : goal.invariant-loop-p
invariant-loop-p l = Reporting l.store l.initial.report l.report l.p
