use Rattle.cabinet.proofs.Running.{conducts_beside}
use Rattle.cabinet.proofs.run.conduct.Goals as goal

pub play_all-requires : goal.play_all-requires
play_all-requires c = c.requires

pub returns : goal.returns
returns c =
    let s = c.args in
    conducts_beside s.table.now s.schedule.now s.decoded.now s.answers.now s.reasons.now s.report.now s.origins.now _ _ _ _ _ _ c.quiescent.result
    c.play_all.ensures c.write_report.ensures c.quiescent.ensures
