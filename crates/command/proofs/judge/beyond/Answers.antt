use borrow.Author.Tests.{le-leb, lt-leb}
use Rattle.command.proofs.judge.beyond.Goals as goal

pub returns-then-byte_wide-most : goal.returns-then-byte_wide-most
returns-then-byte_wide-most c = let s = c.args in rw (le-leb s.most s.a (rw (← c.byte_wide.ensures.0) c.if-byte_wide-most.true))

pub returns-else-byte_wide-most : goal.returns-else-byte_wide-most
returns-else-byte_wide-most c = let s = c.args in rw (lt-leb s.most s.a (rw (← c.byte_wide.ensures.0) c.if-byte_wide-most.false))
