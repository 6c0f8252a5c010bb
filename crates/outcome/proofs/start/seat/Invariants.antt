use Rattle.outcome.specs.Starts.{Seats}
use Rattle.outcome.proofs.start.seat.Given as goal

abbrev pub invariant-loop-p : goal.invariant-loop-p
invariant-loop-p l = Seats l.initial.processes l.placements l.p l.processes
