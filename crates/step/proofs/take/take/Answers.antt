use Rattle.std.proofs.Common.{sym, ap, ◌∙◌}
use Rattle.state.specs.Moved.{alone_of}
use Rattle.step.proofs.Taking.{take_37, take_done_beside}
use Rattle.step.proofs.take.take.Goals as goal

pub returns-then-owing-clause-takes : goal.returns-then-owing-clause-takes
returns-then-owing-clause-takes c =
    let s = c.args in
    let p = c.index-p in
    take_37 s.plan.now s.store.now s.limit p.result s.a p.ensures.1 s.i.code s.i.a s.at _
    (sym c.owing.ensures ∙ c.if-owing.true) _ c.blame.ensures c.refused_for.ensures

pub returns-clause-takes : goal.returns-clause-takes
returns-clause-takes c =
    let s = c.args in
    let p = c.index-p in
    let x = c.word_at-x in
    let w = c.channel_of-channel in
    let k = c.index-k in
    let port = c.port in
    let t = c.take_word in
    let u = c.wrapping_sub_u32 in
    take_done_beside s.plan.now s.store.now s.limit p.result s.a p.ensures.1 s.i.code s.i.a s.at _
    k.result port.result u.result t.new.x (sym c.owing.ensures ∙ c.if-owing.false)
    (rw (w.ensures, x.ensures) at k.ensures.1) (port.ensures k.ensures.0) t.ensures.became u.ensures.value u.type_inv
    (rw (← x.ensures, ← w.ensures, ← c.word_of.ensures) (c.alone.ensures ∙ ap alone_of c.answer_for.ensures))
