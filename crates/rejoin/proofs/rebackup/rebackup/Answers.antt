use mathlib.Core.Path.{◌∙◌, refl, sym}
use Rattle.rejoin.proofs.BackingUp.{rebackups_50, rebackups_50_dead, rebackups_49_held, rebackups_49_full, rebackups_41, rebackups_38, rebackups-done}
use Rattle.rejoin.proofs.rebackup.rebackup.Goals as goal

pub returns-then-is_backed-clause-rebackups : goal.returns-then-is_backed-clause-rebackups
returns-then-is_backed-clause-rebackups c =
    let a = c.args in
    rebackups_50 a.plan.now a.store.now c.index-p.result a.a c.index-p.ensures.1 _ (sym c.is_backed.ensures ∙ c.if-is_backed.true) c.refused_for.ensures

pub returns-then-is_dead-clause-rebackups : goal.returns-then-is_dead-clause-rebackups
returns-then-is_dead-clause-rebackups c =
    let a = c.args in
    rebackups_50_dead a.plan.now a.store.now c.index-p.result a.a c.index-p.ensures.1 _ (sym c.is_backed.ensures ∙ c.if-is_backed.false)
    c.index-other.result c.index-other.ensures.1 (sym c.is_dead.ensures ∙ c.if-is_dead.true) c.refused_for-then-is_dead.ensures

pub returns-then-store-p-ne0-clause-rebackups : goal.returns-then-store-p-ne0-clause-rebackups
returns-then-store-p-ne0-clause-rebackups c =
    let a = c.args in
    rebackups_49_held a.plan.now a.store.now c.index-p.result a.a c.index-p.ensures.1 _ (sym c.is_backed.ensures ∙ c.if-is_backed.false)
    c.index-other.result c.index-other.ensures.1 (sym c.is_dead.ensures ∙ c.if-is_dead.false) c.if-store-p-ne0.true c.refused_for-then-store-p-ne0.ensures

pub returns-then-crowded-clause-rebackups : goal.returns-then-crowded-clause-rebackups
returns-then-crowded-clause-rebackups c =
    let a = c.args in
    rebackups_49_full a.plan.now a.store.now c.index-p.result a.a c.index-p.ensures.1 _ (sym c.is_backed.ensures ∙ c.if-is_backed.false)
    c.index-other.result c.index-other.ensures.1 (sym c.is_dead.ensures ∙ c.if-is_dead.false) c.if-store-p-ne0.false c.crowded.result c.crowded.ensures
    c.if-crowded.true c.refused_for-then-crowded.ensures

pub returns-then-is_waiting-clause-rebackups : goal.returns-then-is_waiting-clause-rebackups
returns-then-is_waiting-clause-rebackups c =
    let a = c.args in
    rebackups_41 a.plan.now a.store.now c.index-p.result a.a c.index-p.ensures.1 _ (sym c.is_backed.ensures ∙ c.if-is_backed.false)
    c.index-other.result c.index-other.ensures.1 (sym c.is_dead.ensures ∙ c.if-is_dead.false) c.if-store-p-ne0.false c.crowded.result c.crowded.ensures
    c.if-crowded.false (sym c.is_waiting.ensures ∙ c.if-is_waiting.true) c.refused_for-then-is_waiting.ensures

pub returns-then-is_full-clause-rebackups : goal.returns-then-is_full-clause-rebackups
returns-then-is_full-clause-rebackups c =
    let a = c.args in
    rebackups_38 a.plan.now a.store.now c.index-p.result a.a c.index-p.ensures.1 _ (sym c.is_backed.ensures ∙ c.if-is_backed.false)
    c.index-other.result c.index-other.ensures.1 (sym c.is_dead.ensures ∙ c.if-is_dead.false) c.if-store-p-ne0.false c.crowded.result c.crowded.ensures
    c.if-crowded.false (sym c.is_waiting.ensures ∙ c.if-is_waiting.false) c.index-b.result c.index-b.ensures.1 (sym c.is_full.ensures ∙ c.if-is_full.true)
    c.refused_for-then-is_full.ensures

pub returns-clause-rebackups : goal.returns-clause-rebackups
returns-clause-rebackups c =
    let a = c.args in
    let b = c.index-b in
    let at = c.place-at in
    rw c.answer_for.ensures
    (rebackups-done a.plan.now a.store.now c.index-p.result a.a c.index-p.ensures.1 _ (sym c.is_backed.ensures ∙ c.if-is_backed.false)
    c.index-other.result c.index-other.ensures.1 (sym c.is_dead.ensures ∙ c.if-is_dead.false) c.if-store-p-ne0.false c.crowded.result c.crowded.ensures
    c.if-crowded.false (sym c.is_waiting.ensures ∙ c.if-is_waiting.false) b.result b.ensures.1 _ _ at.result (sym c.is_full.ensures ∙ c.if-is_full.false)
    c.begin_transfer.ensures.became c.push.ensures at.ensures.0 (at.ensures.1 b.ensures.0) refl)
