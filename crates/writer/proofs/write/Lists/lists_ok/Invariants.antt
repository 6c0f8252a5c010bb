use Rattle.writer.proofs.Lengths.{Counting}
use Rattle.writer.proofs.write.Lists.lists_ok.Given as goal

abbrev pub invariant-loop-p : goal.invariant-loop-p
invariant-loop-p l = Counting l.self.placements.now l.processes l.total l.p
