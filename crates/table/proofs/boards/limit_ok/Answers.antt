use borrow.Author.Tests.{le-leb, lt-leb}
use Rattle.table.proofs.boards.limit_ok.Goals as goal

pub returns-then-limit-ge-LIMIT_LEAST : goal.returns-then-limit-ge-LIMIT_LEAST
returns-then-limit-ge-LIMIT_LEAST c = rw (le-leb _ _ c.if-limit-ge-LIMIT_LEAST.true)

pub returns-else-limit-ge-LIMIT_LEAST : goal.returns-else-limit-ge-LIMIT_LEAST
returns-else-limit-ge-LIMIT_LEAST c = rw (lt-leb _ _ c.if-limit-ge-LIMIT_LEAST.false)
