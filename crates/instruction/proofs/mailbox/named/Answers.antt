use Rattle.std.proofs.Common.{eq-eqb, ne_eqb}
use Rattle.instruction.proofs.mailbox.named.Goals as goal

pub returns-then-code-eq4 : goal.returns-then-code-eq4
returns-then-code-eq4 c = rw (c.wanted.ensures, eq-eqb _ _ c.if-code-eq4.true)

pub returns-else-code-eq4 : goal.returns-else-code-eq4
returns-else-code-eq4 c = rw (ne_eqb _ _ c.if-code-eq4.false)
