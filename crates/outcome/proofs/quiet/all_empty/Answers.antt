use Rattle.outcome.proofs.Quieting.{empty_on, empty_fails, empty-end}
use Rattle.outcome.proofs.quiet.all_empty.Goals as goal

pub returns-then-queues-b-ne0 : goal.returns-then-queues-b-ne0
returns-then-queues-b-ne0 c = empty_fails c.args.queues.now _ _ _ c.most-n.ensures.1 c.loop-b-test.true c.if-queues-b-ne0.true

pub loop-b-preserved : goal.loop-b-preserved
loop-b-preserved c = empty_on c.args.queues.now _ _ c.loop-b.invariant c.loop-b-test.true c.if-queues-b-ne0.false

pub returns : goal.returns
returns c = empty-end c.args.queues.now _ _ _ c.most-n.ensures.1 c.loop-b.invariant c.loop-b-test.false
