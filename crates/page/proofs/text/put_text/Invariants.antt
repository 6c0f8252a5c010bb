use lib.ListN.{drop}
use Rattle.page.proofs.Putting.{Going}
use Rattle.page.proofs.text.put_text.Given as goal

abbrev pub invariant-loop-i : goal.invariant-loop-i
invariant-loop-i l = Going (drop l.from l.text) l.initial.out l.at (drop l.i l.text) l.out l.to
