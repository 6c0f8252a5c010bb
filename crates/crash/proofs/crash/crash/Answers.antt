use mathlib.Core.Path.{sym, ◌∙◌}
use Rattle.crash.proofs.Crashing.{crashes_34, crashes_44, crashes-done}
use Rattle.crash.proofs.crash.crash.Goals as goal

pub returns-then-is_dead-clause-crashes : goal.returns-then-is_dead-clause-crashes
returns-then-is_dead-clause-crashes c =
    let a = c.args in
    crashes_34 a.plan.now a.store.now a.a c.index-b.result c.index-b.ensures.1 (sym c.is_dead.ensures ∙ c.if-is_dead.true) _ c.refusal_for.ensures

pub returns-then-some_unbacked-clause-crashes : goal.returns-then-some_unbacked-clause-crashes
returns-then-some_unbacked-clause-crashes c =
    let a = c.args in
    crashes_44 a.plan.now a.store.now a.a c.index-b.result c.index-b.ensures.1 (sym c.is_dead.ensures ∙ c.if-is_dead.false) c.most-p.result c.most-p.ensures.1
    c.some_unbacked.result c.some_unbacked.ensures c.if-some_unbacked.true _ c.refusal_for-then-some_unbacked.ensures

pub returns-clause-crashes : goal.returns-clause-crashes
returns-clause-crashes c =
    let a = c.args in
    rw c.answer_for.ensures
    (crashes-done a.plan.now a.store.now a.a c.index-b.result c.index-b.ensures.1 (sym c.is_dead.ensures ∙ c.if-is_dead.false) c.most-p.result c.most-p.ensures.1
    c.some_unbacked.result c.some_unbacked.ensures c.if-some_unbacked.false c.most-k.result c.most-k.ensures.1 _ _ _ _ _
    c.recount.ensures c.lose_words.ensures c.crash_all.ensures c.recount-2.ensures c.die.ensures)
