use native.Mathlib.Omega.{arith}
use Rattle.undo.proofs.Hand.{answered-a, answered-word, answered-none, answered_seven}
use Rattle.undo.proofs.session.undo_answer.Goals as goal

pub returns-then-c-ne0 : goal.returns-then-c-ne0
returns-then-c-ne0 c = (answered-a c.args.c c.args.kept c.byte_word-a.ensures.0 c.if-c-ne0.true c.refusal_for.ensures, let a = c.byte_word-a.ensures in omega arith)

pub returns-then-c-ne0-2 : goal.returns-then-c-ne0-2
returns-then-c-ne0-2 c = (answered-word c.args.c c.args.kept c.byte_word-a.ensures.0 c.if-c-ne0.false c.if-c-ne0-2.true c.refusal_for-then-c-ne0-2.ensures, let a = c.byte_word-a.ensures in omega arith)

pub returns-then-kept-eq0 : goal.returns-then-kept-eq0
returns-then-kept-eq0 c = (answered-none c.args.c c.args.kept c.byte_word-a.ensures.0 c.if-c-ne0.false c.if-c-ne0-2.false c.if-kept-eq0.true c.refusal_for-then-kept-eq0.ensures, let a = c.byte_word-a.ensures in omega arith)

pub returns : goal.returns
returns c = (answered_seven c.args.c c.args.kept c.byte_word-a.ensures.0 c.if-c-ne0.false c.if-c-ne0-2.false c.if-kept-eq0.false c.answer_for.ensures, let a = c.byte_word-a.ensures in omega arith)
