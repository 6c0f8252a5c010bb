use Rattle.instruction.proofs.Taking.{takes}
use Rattle.instruction.proofs.instruction.take_word.Goals as goal

pub returns-clause-became : goal.returns-clause-became
returns-clause-became c =
    let a = c.args in
    let s = c.wrapping_sub_u32-x in
    let e = c.load.ensures in
    let f = c.wide-first.ensures.0 in
    rw (c.event.ensures, c.tally.ensures, c.lane-k.ensures, c.wrapping_add_u32.ensures.value, e, c.place.ensures, f)
    (takes a.x.now a.i.code a.i.a a.at a.port (rw c.wide-unread.ensures.0 at c.if-at-unread.false) s.result (rw e at s.ensures.value) s.type_inv c.remove.new.mail
    (rw (e, f) at c.remove.ensures))
