use mathlib.Core.Path.{refl, ◌∙◌}
use Rattle.layout.proofs.Laying.{each_start, each_on, each-end}
use Rattle.layout.proofs.Blocks.{entry_wide, entry_is, board_laid}
use Rattle.layout.proofs.boards.put_board.Goals as goal

pub loop-i-init : goal.loop-i-init
loop-i-init c = each_start

pub loop-i-preserved : goal.loop-i-preserved
loop-i-preserved c =
    each_on (entry_wide _ _ _) c.loop-i.invariant c.loop-i-test.true refl (c.entry-x.ensures ∙ entry_is _ _ _ c.loop-i.i _ c.place_of.ensures.0)
    c.lay-in-loop-i.ensures

pub returns : goal.returns
returns c =
    let s = c.args in
    board_laid s.queue.now s.entries.now s.b s.out.now s.at _ _ _ c.dead.ensures c.lay.ensures (each-end c.loop-i.invariant c.loop-i-test.false)
