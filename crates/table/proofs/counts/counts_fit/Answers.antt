use Rattle.table.proofs.counts.counts_fit.Goals as goal

pub returns-then-within-2 : goal.returns-then-within-2
returns-then-within-2 c =
    rw (← c.within.ensures, c.if-within.true, ← c.within-then-within.ensures, c.if-within-2.true)
    c.within-then-within-2.ensures

pub returns-else-within-2 : goal.returns-else-within-2
returns-else-within-2 c = rw (← c.within.ensures, c.if-within.true, ← c.within-then-within.ensures, c.if-within-2.false)

pub returns-else-within : goal.returns-else-within
returns-else-within c = rw (← c.within.ensures, c.if-within.false)
