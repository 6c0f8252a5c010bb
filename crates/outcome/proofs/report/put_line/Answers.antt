use Rattle.outcome.proofs.Reporting.{line-none, line_put}
use Rattle.outcome.proofs.report.put_line.Goals as goal

pub returns-then-p-report : goal.returns-then-p-report
returns-then-p-report c = let s = c.args in line-none s.x.now s.report.now s.p c.if-p-report.true

pub returns : goal.returns
returns c =
    let s = c.args in
    line_put s.x.now s.report.now _ _ _ _ _ s.p c.put_head.ensures c.put_word.ensures c.put_word-2.ensures c.put_word-3.ensures
    c.put_word-4.ensures
