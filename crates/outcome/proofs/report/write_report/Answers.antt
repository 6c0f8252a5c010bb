use native.Mathlib.Omega.{arith}
use Rattle.outcome.proofs.Reporting.{reporting_on, reporting_end}
use Rattle.outcome.proofs.report.write_report.Goals as goal

pub loop-p-preserved : goal.loop-p-preserved
loop-p-preserved c = reporting_on c.loop-p.invariant c.put_line.ensures

pub returns : goal.returns
returns c = reporting_end c.loop-p.invariant c.most-n.ensures.1 (omega arith)
