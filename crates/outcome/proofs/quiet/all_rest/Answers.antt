use mathlib.Core.Path.{ap}
use mathlib.Core.Bool.{not}
use Rattle.outcome.proofs.Quieting.{RestsAt, at_plan, resting_on_beside, resting_fails, resting_end_beside}
use native.Mathlib.Omega.{arith}
use Rattle.outcome.proofs.quiet.all_rest.Goals as goal

pub returns-then-not-rests : goal.returns-then-not-rests
returns-then-not-rests c =
    let s = c.args in
    let its-answer : RestsAt s.table.now s.plan.now s.store.now c.loop-p.p c.rests.result =
    at_plan s.table.now s.plan.now s.store.now _ _ _ _ (omega arith) c.start.ensures c.length.ensures c.rests.ensures in
    resting_fails _ _ _ c.most-n.ensures.1 c.loop-p-test.true its-answer (ap not c.if-not-rests.true)

pub loop-p-preserved : goal.loop-p-preserved
loop-p-preserved c =
    let s = c.args in
    let its-answer : RestsAt s.table.now s.plan.now s.store.now c.loop-p.p c.rests.result =
    at_plan s.table.now s.plan.now s.store.now _ _ _ _ (omega arith) c.start.ensures c.length.ensures c.rests.ensures in
    resting_on_beside _ _ _ c.most-n.ensures.1 c.loop-p.invariant c.loop-p-test.true its-answer (ap not c.if-not-rests.false)

pub returns : goal.returns
returns c = resting_end_beside _ _ _ c.most-n.ensures.1 c.loop-p.invariant c.loop-p-test.false
