-- `judge_view`: what is judged first refuses first.
use Rattle.std.proofs.lemmas.Result.{err_from_is_err_and}
use Rattle.view.proofs.Viewing.{by_table, by_schedule, too_short, long_enough}
use Rattle.view.proofs.judge.judge_view.Goals as goal

pub returns-in_err-decoded : goal.returns-in_err-decoded
returns-in_err-decoded c =
    let p = err_from_is_err_and c.from_residual.result c.from_residual.ensures.1 in
    rw (p.1, p.2) (by_table c.args.table.now c.args.schedule.now _ _ c.in_err-decoded.ensures.number_is)

pub returns-in_err-judge_schedule : goal.returns-in_err-judge_schedule
returns-in_err-judge_schedule c =
    let p = err_from_is_err_and c.from_residual-in_err-judge_schedule.result c.from_residual-in_err-judge_schedule.ensures.1 in
    rw (p.1, p.2) (by_schedule c.args.table.now c.args.schedule.now _ c.in_ok-decoded.ensures.number_is _ c.in_err-judge_schedule.ensures.number_is)

pub returns-then-room-lt-VIEW : goal.returns-then-room-lt-VIEW
returns-then-room-lt-VIEW c =
    too_short c.args.table.now c.args.schedule.now _ c.in_ok-decoded.ensures c.in_ok-judge_schedule.ensures.number_is c.if-room-lt-VIEW.true

pub returns : goal.returns
returns c =
    long_enough c.args.table.now c.args.schedule.now _ c.in_ok-decoded.ensures c.in_ok-judge_schedule.ensures.number_is c.if-room-lt-VIEW.false
