use Rattle.page.proofs.Lining.{processes_start, processes_on, processes-end}
use Rattle.page.proofs.lines.put_processes.Goals as goal

pub loop-p-init : goal.loop-p-init
loop-p-init c = let s = c in processes_start s.args.processes s.args.report.now s.args.out.now s.args.at s.ranges.at.fits

pub loop-p-preserved : goal.loop-p-preserved
loop-p-preserved c = let l = c.loop-p in let s = c.args in processes_on s.processes s.report.now _ l.out _ s.at l.to l.p _ l.invariant c.loop-p-test.true c.put_process-to.ensures

pub shape_of-out : goal.shape_of-out
shape_of-out c = c.loop-p.invariant.same_length

pub returns : goal.returns
returns c = let l = c.loop-p in let s = c.args in processes-end s.processes s.report.now _ l.out s.at l.to l.p l.invariant c.loop-p-test.false
