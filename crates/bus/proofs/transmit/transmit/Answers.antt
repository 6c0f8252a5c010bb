use Rattle.std.proofs.Common.{sym, ◌∙◌}
use Rattle.bus.proofs.Transmitting.{transmits_34, transmits_42, transmits_word_beside, transmits_sync_beside, no_fourth, transmits_transfer_beside}
use Rattle.bus.proofs.transmit.transmit.Goals as goal

pub returns-then-is_dead : goal.returns-then-is_dead
returns-then-is_dead c =
    let s = c.args in
    let b = c.index-b in
    transmits_34 s.plan.now s.store.now s.a b.result s.oldest _ b.ensures.1 (sym c.is_dead.ensures ∙ c.if-is_dead.true) c.refusal_for.ensures

pub returns-in_default : goal.returns-in_default
returns-in_default c =
    let s = c.args in
    let b = c.index-b in
    transmits_42 s.plan.now s.store.now s.a b.result s.oldest _ b.ensures.1 (sym c.is_dead.ensures ∙ c.if-is_dead.false)
    (sym c.peek.ensures ∙ c.in_default.is) c.refusal_for-in_default.ensures

pub returns-in-Word : goal.returns-in-Word
returns-in-Word c =
    let s = c.args in
    let b = c.index-b in
    let i = c.in-Some in
    let x = c.in-Word in
    let y = c.transmit_word in
    transmits_word_beside s.plan.now s.store.now s.a b.result s.oldest _ b.ensures.1 (sym c.is_dead.ensures ∙ c.if-is_dead.false) i.item (sym c.peek.ensures ∙ i.is)
    c.pop.new.self c.pop.ensures x.channel x.word x.place x.is y.new.store y.ensures

pub returns-in-Sync : goal.returns-in-Sync
returns-in-Sync c =
    let s = c.args in
    let b = c.index-b in
    let i = c.in-Some in
    let x = c.in-Sync in
    let y = c.transmit_sync in
    transmits_sync_beside s.plan.now s.store.now s.a b.result s.oldest _ b.ensures.1 (sym c.is_dead.ensures ∙ c.if-is_dead.false) i.item (sym c.peek.ensures ∙ i.is)
    c.pop.new.self c.pop.ensures x.process x.checkpoint x.is y.new.store y.ensures

pub returns-in_default-item-3 : goal.returns-in_default-item-3
returns-in_default-item-3 c = no_fourth c.in-Some.item c.in_default-item.not-Word c.in_default-item-2.not-Sync c.in_default-item-3.not-Transfer

pub returns : goal.returns
returns c =
    let s = c.args in
    let b = c.index-b in
    let i = c.in-Some in
    let x = c.in-Transfer in
    let y = c.transmit_transfer in
    transmits_transfer_beside s.plan.now s.store.now s.a b.result s.oldest _ b.ensures.1 (sym c.is_dead.ensures ∙ c.if-is_dead.false) i.item (sym c.peek.ensures ∙ i.is)
    c.pop.new.self c.pop.ensures x.process x.is y.new.store y.ensures
