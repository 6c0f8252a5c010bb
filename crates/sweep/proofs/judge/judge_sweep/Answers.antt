-- `judge_sweep`: what is judged first refuses first.
use mathlib.Core.Path.{sym, ◌∙◌}
use Rattle.std.proofs.lemmas.Result.{err_from_is_err_and}
use Rattle.sweep.proofs.Judging.{by_table, by_schedule, records_are, too_many, has_barred, admits}
use Rattle.sweep.proofs.judge.judge_sweep.Goals as goal

pub returns-in_err-decoded : goal.returns-in_err-decoded
returns-in_err-decoded c =
    let p = err_from_is_err_and c.from_residual.result c.from_residual.ensures.1 in
    rw (p.1, p.2) (by_table c.args.table.now c.args.schedule.now _ c.in_err-decoded.ensures.number_is)

pub returns-in_err-records : goal.returns-in_err-records
returns-in_err-records c =
    let p = err_from_is_err_and c.from_residual-in_err-records.result c.from_residual-in_err-records.ensures.1 in
    rw (p.1, p.2) (by_schedule c.args.table.now c.args.schedule.now c.in_ok-decoded.ensures.number_is _ c.in_err-records.ensures.number_is)

pub returns-then-records-gt-SWEEP_MOST : goal.returns-then-records-gt-SWEEP_MOST
returns-then-records-gt-SWEEP_MOST c =
    too_many c.args.table.now c.args.schedule.now c.in_ok-decoded.ensures c.in_ok-records.ensures c.if-records-gt-SWEEP_MOST.true

pub returns-then-any_barred : goal.returns-then-any_barred
returns-then-any_barred c =
    let t = c.args.table.now in
    let s = c.args.schedule.now in
    let d = c.in_ok-decoded.ensures in
    let j = c.in_ok-records.ensures in
    has_barred t s d j c.if-records-gt-SWEEP_MOST.false (sym (c.any_barred.ensures (records_are t s d j)) ∙ c.if-any_barred.true)

pub returns : goal.returns
returns c =
    let t = c.args.table.now in
    let s = c.args.schedule.now in
    let d = c.in_ok-decoded.ensures in
    let j = c.in_ok-records.ensures in
    admits t s d j c.if-records-gt-SWEEP_MOST.false (sym (c.any_barred.ensures (records_are t s d j)) ∙ c.if-any_barred.false)
