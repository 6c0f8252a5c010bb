use mathlib.Core.Path.{ap, ◌∙◌}
use Prim.Native.Nat.{ℕ, ◌%◌}
use Rattle.process.proofs.Readdressing.{filling_start, filling_on, filling_end}
use native.Mathlib.Omega.{arith}
use Rattle.process.proofs.promotion.readdress.Goals as goal

pub loop-i-init : goal.loop-i-init
loop-i-init c = filling_start _ _ _ _

pub loop-i-preserved : goal.loop-i-preserved
loop-i-preserved c =
    let a = c.args in
    let l = c.loop-i in
    let t = c.loop-i-test.true in
    let s = c.requires in
    filling_on a.mail.now a.log.now a.len a.channels l.mail l.i l.invariant c.wide-port.result c.word_in-word.result c.append.new.mail t s
    (c.wide-port.ensures.0 ∙ ap (λ (n : ℕ). n % 4) (c.port_in.ensures.value (omega arith)))
    (c.word_in-word.ensures.value (omega arith)) c.append.ensures

pub returns : goal.returns
returns c =
    let a = c.args in
    let l = c.loop-i in
    filling_end a.mail.now a.log.now a.len a.channels l.mail l.i l.invariant c.loop-i-test.false
