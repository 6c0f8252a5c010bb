use Rattle.page.proofs.Spelling.{spelling_start, spelling_first, spelling_on, spelling_end}
use native.Mathlib.Omega.{arith}
use Rattle.page.proofs.text.spell.Goals as goal

pub loop-rest-init : goal.loop-rest-init
loop-rest-init c = spelling_start _ _ c.requires c.ranges.n.fits

pub bounds-text-i : goal.bounds-text-i
bounds-text-i c = c.loop-rest.invariant.within

pub overflow_sub-i : goal.overflow_sub-i
overflow_sub-i c = spelling_first _ _ _ _ c.loop-rest.invariant c.loop-rest-test.true

pub loop-rest-smaller : goal.loop-rest-smaller
loop-rest-smaller c = let h = spelling_first _ _ _ _ c.loop-rest.invariant c.loop-rest-test.true in omega arith

pub loop-rest-preserved : goal.loop-rest-preserved
loop-rest-preserved c = let l = c.loop-rest in spelling_on _ l.text l.i l.rest _ l.invariant c.loop-rest-test.true c.digit.ensures

pub bounds-text-i-2 : goal.bounds-text-i-2
bounds-text-i-2 c = c.loop-rest.invariant.within

pub returns : goal.returns
returns c = let l = c.loop-rest in spelling_end _ l.text l.i l.rest _ l.invariant c.loop-rest-test.false c.digit-2.ensures
