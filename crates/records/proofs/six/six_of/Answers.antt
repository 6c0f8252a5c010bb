use mathlib.Core.Path.{◌∙◌}
use Rattle.records.proofs.Sixes.{no_six, whole-six}
use Rattle.records.proofs.six.six_of.Goals as goal

pub returns-then-k-part : goal.returns-then-k-part
returns-then-k-part c = no_six _ c.args.k c.if-k-part.true

pub returns : goal.returns
returns c = c.six_at.ensures ∙ whole-six _ c.args.k c.if-k-part.false
