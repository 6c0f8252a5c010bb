use Rattle.rules.specs.Sizes.{processes_most}
use Rattle.layout.proofs.Laying.{EachLaid}
use Rattle.layout.specs.Lists.{process_block}
use Rattle.layout.proofs.all.put_processes.Given as goal

abbrev pub invariant-loop-p : goal.invariant-loop-p
invariant-loop-p l = EachLaid (process_block l.count l.processes) 279 processes_most l.initial.out l.at l.out l.p
