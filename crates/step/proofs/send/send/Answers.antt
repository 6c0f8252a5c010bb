use Rattle.std.proofs.Common.{◌≡◌, ◌+◌, ◌%◌, ◌^◌, get_or, sym, ap, ◌∙◌, arith, Some}
use Rattle.state.specs.Moved.{alone_of}
use Rattle.step.proofs.Sending.{send_suppressed_beside, send_37, send_38, send_39, send_queued_beside}
use Rattle.step.proofs.send.send.Goals as goal

pub returns-then-store-p-gt0-clause-sends : goal.returns-then-store-p-gt0-clause-sends
returns-then-store-p-gt0-clause-sends c =
    let s = c.args in
    let p = c.index-p in
    let t = c.suppress_send in
    send_suppressed_beside s.plan.now s.store.now s.limit p.result s.a p.ensures.1 s.channel s.word _ t.new.x c.if-store-p-gt0.true t.ensures.exact
    (c.alone.ensures ∙ ap alone_of c.answer_for.ensures)

pub returns-then-owing-clause-sends : goal.returns-then-owing-clause-sends
returns-then-owing-clause-sends c =
    let s = c.args in
    let p = c.index-p in
    send_37 s.plan.now s.store.now s.limit p.result s.a p.ensures.1 s.channel s.word _
    (omega arith) (sym c.owing.ensures ∙ c.if-owing.true) _ c.blame.ensures c.refused_for.ensures

pub returns-then-is_full-clause-sends : goal.returns-then-is_full-clause-sends
returns-then-is_full-clause-sends c =
    let s = c.args in
    let p = c.index-p in
    let b = c.index-b in
    send_38 s.plan.now s.store.now s.limit p.result s.a p.ensures.1 s.channel s.word _
    (omega arith) (sym c.owing.ensures ∙ c.if-owing.false) b.result b.ensures.1 (sym c.is_full.ensures ∙ c.if-is_full.true) c.refused_for-then-is_full.ensures

pub returns-then-full-clause-sends : goal.returns-then-full-clause-sends
returns-then-full-clause-sends c =
    let s = c.args in
    let p = c.index-p in
    let b = c.index-b in
    let k = c.index-k in
    let reader = c.reader in
    send_39 s.plan.now s.store.now s.limit p.result s.a p.ensures.1 s.channel s.word _
    (omega arith) (sym c.owing.ensures ∙ c.if-owing.false) b.result b.ensures.1 (sym c.is_full.ensures ∙ c.if-is_full.false) k.result reader.result k.ensures.1
    (reader.ensures k.ensures.0) (sym c.full.ensures ∙ c.if-full.true) c.refused_for-then-full.ensures

pub returns-clause-sends : goal.returns-clause-sends
returns-clause-sends c =
    let s = c.args in
    let p = c.index-p in
    let b = c.index-b in
    let k = c.index-k in
    let reader = c.reader in
    let at = c.place-at in
    let t = c.queue_send in
    let more : c.wrapping_add_u32.result ≡ (get_or s.store.now.totals k.result 0 + 1) % 2 ^ 32 = c.wrapping_add_u32.ensures.value in
    rw (c.push.ensures, more)
    (send_queued_beside s.plan.now s.store.now s.limit p.result s.a p.ensures.1 s.channel s.word _
    (omega arith) (sym c.owing.ensures ∙ c.if-owing.false) b.result b.ensures.1 (sym c.is_full.ensures ∙ c.if-is_full.false) k.result reader.result k.ensures.1
    (reader.ensures k.ensures.0) t.new.x (sym c.full.ensures ∙ c.if-full.false) t.ensures.exact (rw (← at.ensures.1 b.ensures.0) at.ensures.0)
    (λ i. record { answer = c.answer_for-2.ensures i; at = Some (at.ensures.1 b.ensures.0 i) }))
