use Rattle.std.proofs.Common.{◌≡◌, ℕ, ◌<◌, List, refl, sym, ap, subst, arith}
use Rattle.plan.specs.declared.Wire.{Wire}
use Rattle.plan.specs.Plan.{sender_in}
use Rattle.process.specs.declared.process.Process.{Process}
use Rattle.process.specs.Change.{Changes, HeadAlone}
use Rattle.rules.specs.Moves.{counts}
use Rattle.bus.proofs.Carrying.{carries_inside_beside, carries-outside}
use Rattle.bus.proofs.word.transmit_word.Goals as goal

-- a number that is the channel's sender, and the index that was made of it; which call found the number is not named
sender_index : (wires : List Wire) (k x p : ℕ) → (p < 16) × (x < 16 → p ≡ x) → x ≡ sender_in wires k → (x ≡ sender_in wires k) × (x < 16 → p ≡ x)
sender_index wires k x p made its = (its, made.1)

-- counted, with the mailbox and the log that it has, which stay
counted_so : (x x' : Process) → ((mail log : List ℕ) → Changes (record x { mail = mail; log = log }) (record x' { mail = mail; log = log }) counts)
    → HeadAlone x x' → Changes x x' counts
counted_so x x' made alone =
    subst (λ (z : Process). Changes x z counts)
    (λ i. record x' { mail = sym (ap (λ (z : Process). z.mail) alone) i; log = sym (ap (λ (z : Process). z.log) alone) i }) (made x.mail x.log)

pub returns-then-reader-eq-ENVIRONMENT : goal.returns-then-reader-eq-ENVIRONMENT
returns-then-reader-eq-ENVIRONMENT c =
    let s = c.args in
    let k = c.index-k in
    let p = c.index-p in
    let its = sender_index s.plan.now.wires k.result _ p.result p.ensures (let small = k.ensures.0 in omega arith) in
    let n = c.counts in
    let less = c.wrapping_sub_u32 in
    rw c.answer_for-answer.ensures
    (carries-outside s.plan.now s.store.now s.channel s.word k.result _ p.result n.new.self _ k.ensures.1 its.0 its.1 (counted_so _ _ n.ensures.became n.ensures.rest_stays) refl
    c.reader.result (c.reader.ensures k.ensures.0) c.if-reader-eq-ENVIRONMENT.true less.result less.ensures.value less.type_inv)

pub returns : goal.returns
returns c =
    let s = c.args in
    let k = c.index-k in
    let p = c.index-p in
    let its = sender_index s.plan.now.wires k.result _ p.result p.ensures (let small = k.ensures.0 in omega arith) in
    let n = c.counts in
    let d = c.deliver in
    rw c.answer_for-answer.ensures
    (carries_inside_beside s.plan.now s.store.now s.channel s.word k.result _ p.result n.new.self _ k.ensures.1 its.0 its.1 (counted_so _ _ n.ensures.became n.ensures.rest_stays) refl
    c.reader.result (c.reader.ensures k.ensures.0) c.if-reader-eq-ENVIRONMENT.false d.new.store d.ensures)
