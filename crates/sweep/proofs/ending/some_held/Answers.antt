use mathlib.Core.Path.{refl}
use Rattle.sweep.proofs.Endings.{held_found, held_on, held_none}
use native.Mathlib.Omega.{arith}
use Rattle.sweep.proofs.ending.some_held.Goals as goal

pub loop-p-init : goal.loop-p-init
loop-p-init c = (c.most-n.ensures.0, omega arith, refl)

pub returns-then-report-p-ne0 : goal.returns-then-report-p-ne0
returns-then-report-p-ne0 c = held_found c.args.report.now _ _ c.loop-p.p c.most-n.ensures.1 c.loop-p-test.true c.if-report-p-ne0.true

pub loop-p-preserved : goal.loop-p-preserved
loop-p-preserved c =
    let l = c.loop-p in
    (l.invariant.0, omega arith, held_on c.args.report.now l.p l.invariant.2 c.if-report-p-ne0.false)

pub returns : goal.returns
returns c =
    let l = c.loop-p in
    held_none c.args.report.now _ _ l.p c.most-n.ensures.1 l.invariant.1 l.invariant.2 c.loop-p-test.false
