use borrow.Author.Tests.{eq-eqb, ne_eqb}
use Rattle.table.proofs.counts.version_ok.Goals as goal

pub returns-then-version-eq-WITHOUT_LIMITS : goal.returns-then-version-eq-WITHOUT_LIMITS
returns-then-version-eq-WITHOUT_LIMITS c = rw (eq-eqb _ _ c.if-version-eq-WITHOUT_LIMITS.true)

pub returns-else-version-eq-WITHOUT_LIMITS : goal.returns-else-version-eq-WITHOUT_LIMITS
returns-else-version-eq-WITHOUT_LIMITS c = rw (ne_eqb _ _ c.if-version-eq-WITHOUT_LIMITS.false)
