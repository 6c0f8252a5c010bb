use Rattle.apart.proofs.Walking.{RecordsTaken}
use Rattle.apart.proofs.take_records.Given as goal

abbrev pub invariant-loop-p : goal.invariant-loop-p
invariant-loop-p l = RecordsTaken l.table l.at l.version l.processes l.initial.placements l.initial.instructions l.placements l.instructions l.next l.i l.p
