use borrow.Author.Tests.{eq-eqb, ne_eqb}
use native.Mathlib.Omega.{arith}
use Rattle.table.proofs.record.length_place.Goals as goal

pub returns-then-version-eq-WITH_LIMITS : goal.returns-then-version-eq-WITH_LIMITS
returns-then-version-eq-WITH_LIMITS c = (rw (eq-eqb _ _ c.if-version-eq-WITH_LIMITS.true), omega arith)

pub returns-else-version-eq-WITH_LIMITS : goal.returns-else-version-eq-WITH_LIMITS
returns-else-version-eq-WITH_LIMITS c = (rw (ne_eqb _ _ c.if-version-eq-WITH_LIMITS.false), omega arith)
