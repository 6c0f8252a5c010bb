-- `run_line`: refused without a table, or run.
use Rattle.std.proofs.lemmas.Result.{err_from_is_err_and}
use Rattle.rules.specs.Run.{buffers_of}
use Rattle.label_line.proofs.Running.{refused, ran_line}
use Rattle.label_line.proofs.run_line.Goals as goal

pub returns-in_err-table : goal.returns-in_err-table
returns-in_err-table c =
    let s = c.args in
    let p = err_from_is_err_and c.from_residual.result c.from_residual.ensures.1 in
    rw (p.1, p.2)
    (refused s.first s.schedule.now (buffers_of s.answers.now s.reasons.now s.report.now s.origins.now) _ c.in_err-table.ensures.number_is)

pub returns : goal.returns
returns c =
    let s = c.args in
    ran_line s.first s.schedule.now (buffers_of s.answers.now s.reasons.now s.report.now s.origins.now) c.in_ok-table.ensures
    c.run.result _ c.run.ensures
