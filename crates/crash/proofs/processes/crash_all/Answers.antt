use Rattle.crash.proofs.Promoting.{crashed_more}
use Rattle.crash.proofs.processes.crash_all.Goals as goal

pub loop-p-preserved : goal.loop-p-preserved
loop-p-preserved c =
    let a = c.args in
    let l = c.loop-p in
    let i0 = c.input_at in
    let i1 = c.input_at-in-loop-p in
    let i2 = c.input_at-in-loop-p-2 in
    let i3 = c.input_at-in-loop-p-3 in
    crashed_more a.plan.now.programs a.processes.now a.a l.processes l.p l.invariant i0.result i1.result i2.result i3.result c.crash.new.self
    i0.ensures i1.ensures i2.ensures i3.ensures c.crash.ensures.became c.crash.ensures.backup_stays
