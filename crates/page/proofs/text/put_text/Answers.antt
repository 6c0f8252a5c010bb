use Rattle.page.proofs.Putting.{going_start, text_on, text_end}
use native.Mathlib.Omega.{arith}
use Rattle.page.proofs.text.put_text.Goals as goal

pub loop-i-init : goal.loop-i-init
loop-i-init c = going_start _ _ _ (let f = c.ranges.at.fits in omega arith)

pub loop-i-preserved : goal.loop-i-preserved
loop-i-preserved c = let l = c.loop-i in let s = c.args in text_on s.text.now _ l.out _ s.from s.at l.to l.i _ l.invariant c.loop-i-test.true c.put-to.ensures

pub shape_of-out : goal.shape_of-out
shape_of-out c = c.loop-i.invariant.same_length

pub returns : goal.returns
returns c = let l = c.loop-i in let s = c.args in text_end s.text.now _ l.out s.from s.at l.to l.i l.invariant c.loop-i-test.false
