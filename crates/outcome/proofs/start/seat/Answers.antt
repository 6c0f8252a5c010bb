use Rattle.outcome.proofs.Starting.{seats_more, seats_all}
use Rattle.outcome.proofs.start.seat.Goals as goal

pub loop-p-preserved : goal.loop-p-preserved
loop-p-preserved c = seats_more c.loop-p.invariant c.seat_one.ensures

pub returns : goal.returns
returns c = seats_all c.loop-p.invariant c.least-most.ensures c.loop-p.auto.p-end c.loop-p-test.false
