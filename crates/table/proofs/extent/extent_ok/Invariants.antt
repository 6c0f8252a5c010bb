use Rattle.table.proofs.Extents.{Extending}
use Rattle.table.proofs.extent.extent_ok.Given as goal

abbrev pub invariant-loop : goal.invariant-loop
invariant-loop l = Extending l.table l.processes l.at l.counter
