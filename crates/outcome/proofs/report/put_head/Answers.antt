use Rattle.outcome.proofs.Reporting.{head_put}
use Rattle.outcome.proofs.report.put_head.Goals as goal

pub returns : goal.returns
returns c =
    let s = c.args in
    head_put s.x.now s.report.now s.at _ _ _ _ c.low_byte.ensures c.low_byte-2.ensures c.low_byte-3.ensures c.low_byte-4.ensures
