-- `ending`: counted by `quiet`, and then by the report.
use mathlib.Core.Path.{sym, ◌∙◌}
use Rattle.sweep.proofs.Endings.{quiet-ends, held-ends, free-ends}
use Rattle.sweep.proofs.ending.ending.Goals as goal
use Rattle.sweep.proofs.ending.ending.Goals.{in-Ok, in-Err}

pub returns-then-quiet : goal.returns-then-quiet
returns-then-quiet c =
    let s = c.args in
    let v = c.run-ended in
    let q = c.if-quiet.true in
    quiet-ends s.table.now s.schedule.now s.processes v.result _ v.ensures
    (elim c.match-ended.branch [ in-Ok w ↦ rw w.in-Ok.is (sym w.quiet-is ∙ q) | in-Err w ↦ rw w.in-Err.is (sym w.quiet-is ∙ q) ])

pub returns-then-some_held : goal.returns-then-some_held
returns-then-some_held c =
    let s = c.args in
    let v = c.run-ended in
    let q = c.if-quiet.false in
    held-ends s.table.now s.schedule.now s.processes v.result _ v.ensures
    (elim c.match-ended.branch [ in-Ok w ↦ rw w.in-Ok.is (sym w.quiet-is ∙ q) | in-Err w ↦ rw w.in-Err.is (sym w.quiet-is ∙ q) ])
    c.some_held.result c.some_held.ensures c.if-some_held.true

pub returns : goal.returns
returns c =
    let s = c.args in
    let v = c.run-ended in
    let q = c.if-quiet.false in
    free-ends s.table.now s.schedule.now s.processes v.result _ v.ensures
    (elim c.match-ended.branch [ in-Ok w ↦ rw w.in-Ok.is (sym w.quiet-is ∙ q) | in-Err w ↦ rw w.in-Err.is (sym w.quiet-is ∙ q) ])
    c.some_held.result c.some_held.ensures c.if-some_held.false
