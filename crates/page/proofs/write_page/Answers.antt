use Rattle.page.specs.Written.{shown_of}
use Rattle.page.proofs.Paging.{page_refused, page_accepted}
use Rattle.page.proofs.write_page.Goals as goal

pub returns-then-number-ne-ACCEPTED : goal.returns-then-number-ne-ACCEPTED
returns-then-number-ne-ACCEPTED c = let s = c.args in page_refused s.number s.records s.processes _ s.quiet (shown_of s.answers.now s.report.now) s.out.now _ c.if-number-ne-ACCEPTED.true c.write_refused.ensures

pub returns : goal.returns
returns c = let s = c.args in page_accepted s.number s.records s.processes _ s.quiet (shown_of s.answers.now s.report.now) s.out.now _ c.if-number-ne-ACCEPTED.false c.write_accepted.ensures
