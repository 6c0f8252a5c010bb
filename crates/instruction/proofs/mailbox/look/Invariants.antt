use Rattle.instruction.specs.Mailbox.{names}
use Rattle.instruction.proofs.Mailboxes.{Looking}
use Rattle.instruction.proofs.mailbox.look.Given as goal

abbrev pub invariant-loop-i : goal.invariant-loop-i
invariant-loop-i l = Looking (names l.code l.operand) l.mail l.first l.unread l.i
