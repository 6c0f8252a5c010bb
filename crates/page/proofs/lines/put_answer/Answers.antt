use mathlib.Core.Path.{refl}
use Rattle.page.proofs.Lining.{answer_put}
use Rattle.page.proofs.lines.put_answer.Goals as goal

pub returns : goal.returns
returns c = let s = c.args in answer_put s.answers.now s.i _ _ _ _ s.out.now _ _ _ _ s.at _ _ _ _ refl c.byte.ensures.0 c.byte-2.ensures.0 c.word.ensures c.put_number-a.ensures c.put_number-b.ensures c.put_number-c.ensures c.put_number.ensures
