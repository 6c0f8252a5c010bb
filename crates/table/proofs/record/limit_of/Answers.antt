use borrow.Author.Tests.{eq-eqb, ne_eqb}
use Rattle.table.proofs.record.limit_of.Goals as goal

pub returns-then-version-eq-WITH_LIMITS : goal.returns-then-version-eq-WITH_LIMITS
returns-then-version-eq-WITH_LIMITS c = rw (eq-eqb _ _ c.if-version-eq-WITH_LIMITS.true) c.byte.ensures

pub returns-else-version-eq-WITH_LIMITS : goal.returns-else-version-eq-WITH_LIMITS
returns-else-version-eq-WITH_LIMITS c = rw (ne_eqb _ _ c.if-version-eq-WITH_LIMITS.false)
