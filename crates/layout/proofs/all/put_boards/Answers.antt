use mathlib.Core.Path.{refl}
use Rattle.layout.proofs.Blocks.{board_block_wide, board_block_is}
use Rattle.layout.proofs.Laying.{each_start, each_on, each-end}
use Rattle.layout.proofs.all.put_boards.Goals as goal

pub loop-b-init : goal.loop-b-init
loop-b-init c = each_start

pub loop-b-preserved : goal.loop-b-preserved
loop-b-preserved c = each_on (board_block_wide _ _ _) c.loop-b.invariant c.loop-b-test.true refl (board_block_is _ _ _ _ _ c.queue_at-queue.ensures) c.put_board.ensures

pub returns : goal.returns
returns c = each-end c.loop-b.invariant c.loop-b-test.false
