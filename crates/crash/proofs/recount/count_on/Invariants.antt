use Rattle.std.proofs.Common.{◌≡◌, ◌≤◌}
use Rattle.rules.specs.Cabinet.{unread_on}
use Rattle.process.specs.Row.{mails_in}
use Rattle.crash.proofs.recount.count_on.Given as goal

abbrev pub invariant-loop-i : goal.invariant-loop-i
invariant-loop-i l = (l.count ≤ l.i) × (l.count ≡ unread_on l.k (mails_in l.x.oldest l.i l.x.mail))
