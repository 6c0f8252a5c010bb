use mathlib.Core.Path.{refl}
use Rattle.layout.proofs.Widths.{unread_two}
use Rattle.layout.proofs.Laying.{each_start, each_on, each-end}
use Rattle.layout.proofs.processes.put_inbox.Goals as goal

pub loop-i-init : goal.loop-i-init
loop-i-init c = each_start

pub loop-i-preserved : goal.loop-i-preserved
loop-i-preserved c = each_on (unread_two c.args.x.now) c.loop-i.invariant c.loop-i-test.true refl c.unread-pair.ensures c.lay.ensures

pub returns : goal.returns
returns c = each-end c.loop-i.invariant c.loop-i-test.false
