use Rattle.rules.specs.Page.{process_lines}
use Rattle.page.proofs.Putting.{Going}
use Rattle.page.proofs.Lining.{processes_from}
use Rattle.page.proofs.lines.put_processes.Given as goal

abbrev pub invariant-loop-p : goal.invariant-loop-p
invariant-loop-p l = Going (process_lines 0 l.processes l.report) l.initial.out l.at (processes_from l.processes l.report l.p) l.out l.to
