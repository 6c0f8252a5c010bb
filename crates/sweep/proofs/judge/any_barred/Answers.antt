use Rattle.sweep.proofs.Judging.{crash_barred, undo_barred, barred_found, not_barred, none_found}
use borrow.Author.Count.{below_more}
use borrow.Author.Rules.{rules}
use native.Mathlib.Omega.{arith}
use Rattle.sweep.proofs.judge.any_barred.Goals as goal

pub loop-i-init : goal.loop-i-init
loop-i-init c = (omega arith, λ k h. absurd (omega arith))

pub returns-then-c-eq-CRASH : goal.returns-then-c-eq-CRASH
returns-then-c-eq-CRASH c =
    let s = c.args in
    let d = c.command_at-c in
    barred_found s.schedule.now s.records c.loop-i.i d.result c.loop-i-test.true d.ensures (crash_barred d.result c.if-c-eq-CRASH.true)

pub returns-then-c-eq-UNDO : goal.returns-then-c-eq-UNDO
returns-then-c-eq-UNDO c =
    let s = c.args in
    let d = c.command_at-c in
    barred_found s.schedule.now s.records c.loop-i.i d.result c.loop-i-test.true d.ensures (undo_barred d.result c.if-c-eq-UNDO.true)

pub loop-i-preserved : goal.loop-i-preserved
loop-i-preserved c =
    let s = c.args in
    let l = c.loop-i in
    let d = c.command_at-c in
    (search rules, below_more _ _ l.invariant.1 (not_barred s.schedule.now s.records l.i d.result d.ensures c.if-c-eq-CRASH.false c.if-c-eq-UNDO.false))

pub returns : goal.returns
returns c =
    let s = c.args in
    let l = c.loop-i in
    none_found s.schedule.now s.records l.i l.invariant.1 c.loop-i-test.false
