use Rattle.writer.specs.Given.{given_by}
use Rattle.writer.proofs.Walking.{RecordsLaid}
use Rattle.writer.proofs.write.Lists.put_records.Given as goal

abbrev pub invariant-loop-p : goal.invariant-loop-p
invariant-loop-p l = RecordsLaid l.initial.bytes l.at (given_by l.self) l.bytes l.next l.i l.p
