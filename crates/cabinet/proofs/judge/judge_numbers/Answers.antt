-- `judge_numbers`: what was judged first comes back first.
use mathlib.Core.Path.{◌∙◌}
use borrow.Author.Tests.{eq-eqb, ne_eqb}
use Rattle.cabinet.specs.Judged.{judged_run}
use Rattle.cabinet.proofs.judge.judge_numbers.Goals as goal

pub returns-then-table_number-ne0 : goal.returns-then-table_number-ne0
unfolding judged_run
returns-then-table_number-ne0 c = rw (ne_eqb c.args.table_number 0 c.if-table_number-ne0.true)

pub returns-then-schedule-ne0 : goal.returns-then-schedule-ne0
unfolding judged_run
returns-then-schedule-ne0 c =
    rw (eq-eqb c.args.table_number 0 c.if-table_number-ne0.false, ne_eqb c.args.schedule.number 0 c.if-schedule-ne0.true)

pub returns-in-Ok : goal.returns-in-Ok
unfolding judged_run
returns-in-Ok c =
    rw (eq-eqb c.args.table_number 0 c.if-table_number-ne0.false, eq-eqb c.args.schedule.number 0 c.if-schedule-ne0.false)
    (rw c.in-Ok.is at c.judge_buffers.ensures)

pub returns-in-Err : goal.returns-in-Err
unfolding judged_run
returns-in-Err c =
    rw (eq-eqb c.args.table_number 0 c.if-table_number-ne0.false, eq-eqb c.args.schedule.number 0 c.if-schedule-ne0.false)
    (c.number.ensures ∙ (rw c.in-Err.is at c.judge_buffers.ensures))
