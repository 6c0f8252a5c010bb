use borrow.Author.Tests.{lt-ltb, le-ltb}
use Rattle.table.proofs.boards.boards_ok.Goals as goal

pub returns-then-standby-boards : goal.returns-then-standby-boards
returns-then-standby-boards c = rw (lt-ltb _ _ c.if-primary-boards.true, lt-ltb _ _ c.if-standby-boards.true)

pub returns-else-standby-boards : goal.returns-else-standby-boards
returns-else-standby-boards c = rw (lt-ltb _ _ c.if-primary-boards.true, le-ltb _ _ c.if-standby-boards.false)

pub returns-else-primary-boards : goal.returns-else-primary-boards
returns-else-primary-boards c = rw (le-ltb _ _ c.if-primary-boards.false)
