use Rattle.page.proofs.Lining.{answers_start, answers_on, answers-end}
use Rattle.page.proofs.lines.put_answers.Goals as goal

pub loop-i-init : goal.loop-i-init
loop-i-init c = let s = c in answers_start s.args.records s.args.answers.now s.args.out.now s.args.at s.ranges.at.fits

pub loop-i-preserved : goal.loop-i-preserved
loop-i-preserved c = let l = c.loop-i in let s = c.args in answers_on s.records s.answers.now _ l.out _ s.at l.to l.i _ l.invariant c.loop-i-test.true c.put_answer-to.ensures

pub shape_of-out : goal.shape_of-out
shape_of-out c = c.loop-i.invariant.same_length

pub returns : goal.returns
returns c = let l = c.loop-i in let s = c.args in answers-end s.records s.answers.now _ l.out s.at l.to l.i l.invariant c.loop-i-test.false
