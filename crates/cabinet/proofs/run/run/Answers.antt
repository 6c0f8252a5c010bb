-- `run`: refused, or conducted.
use Rattle.std.proofs.lemmas.Result.{err_from_is_err_and}
use Rattle.rules.specs.Run.{buffers_of}
use Rattle.cabinet.proofs.Running.{refuses_run, roomy, accepts}
use Rattle.cabinet.proofs.run.run.Goals as goal

pub returns-in_err-admitted : goal.returns-in_err-admitted
returns-in_err-admitted c =
    let s = c.args in
    let p = err_from_is_err_and c.from_residual.result c.from_residual.ensures.1 in
    rw (p.1, p.2)
    (refuses_run s.table.now s.schedule.now (buffers_of s.answers.now s.reasons.now s.report.now s.origins.now) _ c.in_err-admitted.ensures.number_is)

pub conduct-quiet-requires : goal.conduct-quiet-requires
conduct-quiet-requires c =
    let s = c.args in
    roomy s.table.now s.schedule.now (buffers_of s.answers.now s.reasons.now s.report.now s.origins.now) c.in_ok-admitted.ensures.number_is

pub returns : goal.returns
returns c =
    let s = c.args in
    let j = c.in_ok-admitted.ensures in
    accepts s.table.now s.schedule.now (buffers_of s.answers.now s.reasons.now s.report.now s.origins.now) j.number_is j.admitted.0 j.admitted.1
    c.conduct-quiet.result _ c.conduct-quiet.ensures
