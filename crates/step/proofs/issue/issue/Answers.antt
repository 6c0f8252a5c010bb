use Rattle.std.proofs.Common.{sym, ◌∙◌, Some}
use Rattle.step.proofs.Issuing.{issues_40, issues_41, issues_38, issues_done_beside}
use Rattle.step.proofs.issue.issue.Goals as goal

pub returns-then-not-is_backed-clause-issues : goal.returns-then-not-is_backed-clause-issues
returns-then-not-is_backed-clause-issues c =
    let p = c.index-p in
    issues_40 c.args.store.now p.result c.args.a p.ensures.1 _ (sym c.is_backed.ensures ∙ c.if-not-is_backed.true) c.refused_for.ensures

pub returns-then-is_waiting-clause-issues : goal.returns-then-is_waiting-clause-issues
returns-then-is_waiting-clause-issues c =
    let p = c.index-p in
    issues_41 c.args.store.now p.result c.args.a p.ensures.1 _ (sym c.is_backed.ensures ∙ c.if-not-is_backed.false) (sym c.is_waiting.ensures ∙ c.if-is_waiting.true) c.refused_for-then-is_waiting.ensures

pub returns-then-is_full-clause-issues : goal.returns-then-is_full-clause-issues
returns-then-is_full-clause-issues c =
    let p = c.index-p in
    let b = c.index-b in
    issues_38 c.args.store.now p.result c.args.a p.ensures.1 _ (sym c.is_backed.ensures ∙ c.if-not-is_backed.false) (sym c.is_waiting.ensures ∙ c.if-is_waiting.false) b.result b.ensures.1
    (sym c.is_full.ensures ∙ c.if-is_full.true) c.refused_for-then-is_full.ensures

pub returns-clause-issues : goal.returns-clause-issues
returns-clause-issues c =
    let p = c.index-p in
    let b = c.index-b in
    let at = c.place-at in
    rw c.push.ensures
    (issues_done_beside c.args.store.now p.result c.args.a p.ensures.1 _ (sym c.is_backed.ensures ∙ c.if-not-is_backed.false) (sym c.is_waiting.ensures ∙ c.if-is_waiting.false) b.result b.ensures.1 c.issue.new.self
    (sym c.is_full.ensures ∙ c.if-is_full.false) c.issue.ensures.exact (rw (← at.ensures.1 b.ensures.0) at.ensures.0)
    (λ i. record { answer = c.answer_for.ensures i; at = Some (at.ensures.1 b.ensures.0 i) }))
