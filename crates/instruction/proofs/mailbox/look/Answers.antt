use Rattle.instruction.specs.Mailbox.{names}
use Rattle.instruction.proofs.Mailboxes.{looking_start, looking_on, look_found, look_missed}
use Rattle.instruction.proofs.mailbox.look.Goals as goal

pub loop-i-init : goal.loop-i-init
loop-i-init c = looking_start _ _ _ _

pub returns-then-named : goal.returns-then-named
returns-then-named c =
    let l = c.loop-i in
    let a = c.args in
    look_found (names a.code a.operand) _ _ _ l.i l.invariant c.loop-i-test.true
    (rw (← c.place.ensures, ← c.channel_of.ensures, ← c.named.ensures) c.if-named.true)

pub loop-i-preserved : goal.loop-i-preserved
loop-i-preserved c =
    let l = c.loop-i in
    let a = c.args in
    looking_on (names a.code a.operand) _ _ _ l.i l.invariant c.loop-i-test.true
    (rw (← c.place.ensures, ← c.channel_of.ensures, ← c.named.ensures) c.if-named.false)

pub returns : goal.returns
returns c = look_missed _ _ _ _ _ c.loop-i.invariant c.loop-i-test.false
