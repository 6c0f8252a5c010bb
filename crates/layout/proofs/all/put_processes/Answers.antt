use mathlib.Core.Path.{refl}
use Rattle.layout.proofs.Blocks.{process_block_wide, process_block_is}
use Rattle.layout.proofs.Laying.{each_start, each_on, each-end}
use Rattle.layout.proofs.all.put_processes.Goals as goal

pub loop-p-init : goal.loop-p-init
loop-p-init c = each_start

pub loop-p-preserved : goal.loop-p-preserved
loop-p-preserved c = each_on (process_block_wide _ _) c.loop-p.invariant c.loop-p-test.true refl (process_block_is _ _ _ _ c.process_at-x.ensures) c.put_process.ensures

pub returns : goal.returns
returns c = each-end c.loop-p.invariant c.loop-p-test.false
