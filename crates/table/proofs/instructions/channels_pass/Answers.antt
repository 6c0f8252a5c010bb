use mathlib.Core.Path.{ap}
use mathlib.Core.Bool.{not}
use Rattle.table.proofs.Masks.{left_all, left_none, low, can_clear, clears, left_fails, left_passes}
use Rattle.table.proofs.instructions.channels_pass.Goals as goal

pub loop-left-init : goal.loop-left-init
loop-left-init c = left_all _ _ c.args.mask c.ranges.mask.fits

pub returns-then-not-end_is : goal.returns-then-not-end_is
returns-then-not-end_is c = let s = c.args in let l = c.loop-left in left_fails s.table.now s.p s.mask l.left l.invariant c.loop-left-test.true c.end_is.result c.end_is.ensures (ap not c.if-not-end_is.true)

pub overflow_shl-left : goal.overflow_shl-left
overflow_shl-left c = (low c.loop-left.invariant c.loop-left-test.true).0

pub overflow_sub-left : goal.overflow_sub-left
overflow_sub-left c = can_clear c.loop-left.invariant c.loop-left-test.true

pub loop-left-smaller : goal.loop-left-smaller
loop-left-smaller c = clears c.loop-left.invariant c.loop-left-test.true

pub loop-left-preserved : goal.loop-left-preserved
loop-left-preserved c = let s = c.args in let l = c.loop-left in left_passes s.table.now s.p s.mask l.left l.invariant c.loop-left-test.true c.end_is.result c.end_is.ensures (ap not c.if-not-end_is.false)

pub returns : goal.returns
returns c = left_none _ _ _ c.loop-left.left c.loop-left.invariant c.loop-left-test.false
