use Rattle.page.proofs.Paging.{accepted-some, accepted-answers, accepted-processes, too_long, no_room, with_room}
use Rattle.rules.specs.Page.{accepted_page}
use Rattle.rules.specs.Run.{ran_of}
use Rattle.page.specs.Written.{shown_of}
use native.Mathlib.Omega.{arith}
use Rattle.page.proofs.write_accepted.Goals as goal

pub returns-then-records-out : goal.returns-then-records-out
returns-then-records-out c = let s = c in let a = s.args in let page = accepted_page a.processes (ran_of 0 a.records a.quiet (shown_of a.answers.now a.report.now)) in let some = accepted-some a.records a.processes a.quiet (shown_of a.answers.now a.report.now) in too_long page a.out.now some (let e = accepted-answers a.records a.processes a.quiet (shown_of a.answers.now a.report.now) in let h = c.if-records-out.true in omega arith)

pub returns-then-processes-out : goal.returns-then-processes-out
returns-then-processes-out c = let s = c in let a = s.args in let page = accepted_page a.processes (ran_of 0 a.records a.quiet (shown_of a.answers.now a.report.now)) in let some = accepted-some a.records a.processes a.quiet (shown_of a.answers.now a.report.now) in too_long page a.out.now some (let e = accepted-processes a.records a.processes a.quiet (shown_of a.answers.now a.report.now) in let h = c.if-processes-out.true in omega arith)

pub returns-then-needed-out : goal.returns-then-needed-out
returns-then-needed-out c = let s = c in let a = s.args in let page = accepted_page a.processes (ran_of 0 a.records a.quiet (shown_of a.answers.now a.report.now)) in let some = accepted-some a.records a.processes a.quiet (shown_of a.answers.now a.report.now) in no_room page a.out.now _ _ _ some (let g = s.well_formed in omega arith) c.put_accepted-needed.ensures c.if-needed-out.true

pub returns : goal.returns
returns c = let s = c in let a = s.args in let page = accepted_page a.processes (ran_of 0 a.records a.quiet (shown_of a.answers.now a.report.now)) in let some = accepted-some a.records a.processes a.quiet (shown_of a.answers.now a.report.now) in with_room page a.out.now _ _ _ _ _ some (let g = s.well_formed in omega arith) c.put_accepted-needed.ensures c.if-needed-out.false c.put_accepted.ensures
