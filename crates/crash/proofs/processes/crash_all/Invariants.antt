use Rattle.crash.specs.Processes.{AllCrashed}
use Rattle.crash.proofs.processes.crash_all.Given as goal

abbrev pub invariant-loop-p : goal.invariant-loop-p
invariant-loop-p l = AllCrashed l.p l.plan.programs l.initial.processes l.a l.processes
