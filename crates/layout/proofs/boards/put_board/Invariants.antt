use Prim.Native.Nat.{◌+◌}
use Rattle.rules.specs.Sizes.{outbox_most}
use Rattle.layout.proofs.Laying.{EachLaid}
use Rattle.layout.proofs.Blocks.{entry_in}
use Rattle.layout.proofs.boards.put_board.Given as goal

abbrev pub invariant-loop-i : goal.invariant-loop-i
invariant-loop-i l = EachLaid (entry_in l.queue l.entries l.b) 13 outbox_most l.initial.out (l.at + 2) l.out l.i
