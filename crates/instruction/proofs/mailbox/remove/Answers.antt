use Rattle.std.proofs.Common.{◌≡◌, ◌+◌, ◌-◌, ◌<◌, arith}
use Rattle.instruction.proofs.Mailboxes.{shifting_start, shifting_on, shifting_end}
use Rattle.instruction.proofs.mailbox.remove.Goals as goal

pub loop-moved-init : goal.loop-moved-init
loop-moved-init c = let all : c.args.at - 0 ≡ c.args.at = omega arith in rw all (shifting_start _ _ _ c.requires)

pub loop-moved-preserved : goal.loop-moved-preserved
loop-moved-preserved c =
    let a = c.args in
    let l = c.loop-moved in
    let left : 0 < a.at - l.moved = omega arith in
    let next : a.at - (l.moved + 1) ≡ a.at - l.moved - 1 = omega arith in
    rw (next, c.place-in-loop-moved.ensures, c.place.ensures) (shifting_on _ _ _ c.requires _ _ l.invariant left)

pub returns : goal.returns
returns c = shifting_end _ _ _ c.requires _ _ c.loop-moved.invariant (omega arith)
