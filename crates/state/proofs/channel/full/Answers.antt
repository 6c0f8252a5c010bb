use Rattle.std.proofs.Common.{eq-eqb, ne_eqb}
use Rattle.state.proofs.channel.full.Goals as goal

pub returns-then-reader-ne-ENVIRONMENT : goal.returns-then-reader-ne-ENVIRONMENT
returns-then-reader-ne-ENVIRONMENT c = rw (ne_eqb _ 255 c.if-reader-ne-ENVIRONMENT.true)

pub returns-else-reader-ne-ENVIRONMENT : goal.returns-else-reader-ne-ENVIRONMENT
returns-else-reader-ne-ENVIRONMENT c = rw (eq-eqb _ 255 c.if-reader-ne-ENVIRONMENT.false)
