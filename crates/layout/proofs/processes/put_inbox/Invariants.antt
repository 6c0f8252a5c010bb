use Rattle.backup.specs.Limits.{log_most}
use Rattle.layout.specs.Lists.{inbox_at}
use Rattle.layout.proofs.Laying.{EachLaid}
use Rattle.layout.proofs.processes.put_inbox.Given as goal

abbrev pub invariant-loop-i : goal.invariant-loop-i
invariant-loop-i l = EachLaid (inbox_at l.x) 2 log_most l.initial.out l.at l.out l.i
