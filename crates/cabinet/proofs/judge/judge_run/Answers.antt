-- `judge_run`: what is judged first refuses first.
use Rattle.std.proofs.lemmas.Result.{err_from_is_err_and}
use Rattle.cabinet.proofs.Judging.{by_table, by_schedule, by_buffers, admits}
use Rattle.cabinet.proofs.judge.judge_run.Goals as goal

pub returns-in_err-decoded : goal.returns-in_err-decoded
returns-in_err-decoded c =
    let p = err_from_is_err_and c.from_residual.result c.from_residual.ensures.1 in
    rw (p.1, p.2) (by_table c.args.table.now c.args.schedule.now c.args.lengths _ c.in_err-decoded.ensures.number_is)

pub returns-in_err-records : goal.returns-in_err-records
returns-in_err-records c =
    let p = err_from_is_err_and c.from_residual-in_err-records.result c.from_residual-in_err-records.ensures.1 in
    rw (p.1, p.2) (by_schedule c.args.table.now c.args.schedule.now c.args.lengths c.in_ok-decoded.ensures _ c.in_err-records.ensures.number_is)

pub returns-in_err-judge_buffers : goal.returns-in_err-judge_buffers
returns-in_err-judge_buffers c =
    let p = err_from_is_err_and c.from_residual-in_err-judge_buffers.result c.from_residual-in_err-judge_buffers.ensures.1 in
    rw (p.1, p.2)
    (by_buffers c.args.table.now c.args.schedule.now c.args.lengths c.in_ok-decoded.ensures c.in_ok-records.ensures _ c.in_err-judge_buffers.ensures)

pub returns : goal.returns
returns c =
    admits c.args.table.now c.args.schedule.now c.args.lengths c.in_ok-decoded.ensures c.in_ok-records.ensures c.in_ok-judge_buffers.ensures
