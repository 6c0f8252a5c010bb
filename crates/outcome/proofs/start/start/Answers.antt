use Rattle.outcome.proofs.Starting.{starts}
use Rattle.outcome.proofs.start.start.Goals as goal

pub returns : goal.returns
returns c = starts _ c.seat.ensures
