use Rattle.backup.specs.Limits.{log_most}
use Rattle.layout.specs.Lists.{saved_at}
use Rattle.layout.proofs.Laying.{EachLaid}
use Rattle.layout.proofs.processes.put_saved.Given as goal

abbrev pub invariant-loop-i : goal.invariant-loop-i
invariant-loop-i l = EachLaid (saved_at l.x) 2 log_most l.initial.out l.at l.out l.i
