use Prim.Native.Nat.{◌-◌}
use Rattle.instruction.proofs.Mailboxes.{Shifting}
use Rattle.instruction.proofs.mailbox.remove.Given as goal

abbrev pub invariant-loop-moved : goal.invariant-loop-moved
invariant-loop-moved l = Shifting l.initial.mail l.first l.at l.mail (l.at - l.moved)
