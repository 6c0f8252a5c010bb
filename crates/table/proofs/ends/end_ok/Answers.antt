use borrow.Author.Tests.{lt-ltb, le-ltb}
use Rattle.table.proofs.ends.end_ok.Goals as goal

pub returns-then-end-processes : goal.returns-then-end-processes
returns-then-end-processes c = rw (lt-ltb _ _ c.if-end-processes.true)

pub returns-else-end-processes : goal.returns-else-end-processes
returns-else-end-processes c = rw (le-ltb _ _ c.if-end-processes.false)
