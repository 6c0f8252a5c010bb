use Rattle.rules.specs.Sizes.{boards_most}
use Rattle.layout.proofs.Laying.{EachLaid}
use Rattle.layout.specs.Lists.{board_block}
use Rattle.layout.proofs.all.put_boards.Given as goal

abbrev pub invariant-loop-b : goal.invariant-loop-b
invariant-loop-b l = EachLaid (board_block l.boards l.queues l.entries) 418 boards_most l.initial.out l.at l.out l.b
