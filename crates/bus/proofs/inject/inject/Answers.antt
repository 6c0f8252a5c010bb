use Rattle.std.proofs.Common.{sym, refl, ◌∙◌}
use Rattle.bus.proofs.Injecting.{injects_43, injects_39, injects_done_beside}
use Rattle.bus.proofs.inject.inject.Goals as goal

pub returns-then-sender-ne-ENVIRONMENT-clause-injects : goal.returns-then-sender-ne-ENVIRONMENT-clause-injects
returns-then-sender-ne-ENVIRONMENT-clause-injects c =
    let s = c.args in
    let k = c.index-k in
    injects_43 s.plan.now s.store.now s.a s.word k.result _ k.ensures.1 c.sender.result (c.sender.ensures k.ensures.0)
    c.if-sender-ne-ENVIRONMENT.true c.refusal_for.ensures

pub returns-then-full-clause-injects : goal.returns-then-full-clause-injects
returns-then-full-clause-injects c =
    let s = c.args in
    let k = c.index-k in
    injects_39 s.plan.now s.store.now s.a s.word k.result _ k.ensures.1 c.sender.result (c.sender.ensures k.ensures.0)
    c.if-sender-ne-ENVIRONMENT.false c.reader.result (c.reader.ensures k.ensures.0) (sym c.full.ensures ∙ c.if-full.true) c.refusal_for-then-full.ensures

pub returns-clause-injects : goal.returns-clause-injects
returns-clause-injects c =
    let s = c.args in
    let k = c.index-k in
    let d = c.deliver in
    let more = c.wrapping_add_u32 in
    rw c.answer_for.ensures
    (injects_done_beside s.plan.now s.store.now s.a s.word k.result _ k.ensures.1 c.sender.result (c.sender.ensures k.ensures.0)
    c.if-sender-ne-ENVIRONMENT.false c.reader.result (c.reader.ensures k.ensures.0)
    d.new.store more.result (sym c.full.ensures ∙ c.if-full.false) more.ensures.value refl d.ensures)
