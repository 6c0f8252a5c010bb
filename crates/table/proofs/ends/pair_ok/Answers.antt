use borrow.Author.Tests.{eq-eqb, ne_eqb}
use Rattle.table.proofs.ends.pair_ok.Goals as goal

pub returns-then-sender-ne-ENVIRONMENT : goal.returns-then-sender-ne-ENVIRONMENT
returns-then-sender-ne-ENVIRONMENT c =
    rw (← c.end_ok.ensures, c.if-end_ok.true, ← c.end_ok-then-end_ok.ensures, c.if-end_ok-2.true, ne_eqb _ _ c.if-sender-ne-ENVIRONMENT.true)

pub returns-else-sender-ne-ENVIRONMENT : goal.returns-else-sender-ne-ENVIRONMENT
returns-else-sender-ne-ENVIRONMENT c =
    rw (← c.end_ok.ensures, c.if-end_ok.true, ← c.end_ok-then-end_ok.ensures, c.if-end_ok-2.true, eq-eqb _ _ c.if-sender-ne-ENVIRONMENT.false)

pub returns-else-end_ok-2 : goal.returns-else-end_ok-2
returns-else-end_ok-2 c =
    rw (← c.end_ok.ensures, c.if-end_ok.true, ← c.end_ok-then-end_ok.ensures, c.if-end_ok-2.false)

pub returns-else-end_ok : goal.returns-else-end_ok
returns-else-end_ok c = rw (← c.end_ok.ensures, c.if-end_ok.false)
