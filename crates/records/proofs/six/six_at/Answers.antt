use mathlib.Core.Path.{ap}
use Rattle.records.specs.Six.{six}
use Rattle.records.proofs.six.six_at.Goals as goal

pub returns : goal.returns
returns c = ap (six _ _) c.number32_of.ensures
