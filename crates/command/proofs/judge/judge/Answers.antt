use Rattle.command.specs.Judges.{judge_of}
use borrow.Author.Tests.{ne_eqb}
use Rattle.command.proofs.judge.judge.Goals as goal

pub returns-then-c-eq-FEED : goal.returns-then-c-eq-FEED
unfolding judge_of
returns-then-c-eq-FEED c = rw (c.absent.ensures, c.if-c-eq-FEED.true)

pub returns-then-c-ne0 : goal.returns-then-c-ne0
unfolding judge_of
returns-then-c-ne0 c = rw (ne_eqb _ 4 c.if-c-eq-FEED.false, ne_eqb _ 0 c.if-c-ne0.true, c.stray.ensures)

pub returns : goal.returns
unfolding judge_of
returns c = rw (ne_eqb _ 4 c.if-c-eq-FEED.false, c.if-c-ne0.false, c.absent-2.ensures)
