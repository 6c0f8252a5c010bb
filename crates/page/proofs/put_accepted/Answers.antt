use mathlib.Core.Path.{refl}
use Rattle.page.specs.Written.{shown_of}
use Rattle.page.proofs.Paging.{accepted_put}
use Rattle.page.proofs.put_accepted.Goals as goal

pub returns : goal.returns
returns c = let s = c.args in accepted_put s.records s.processes _ _ s.quiet (shown_of s.answers.now s.report.now) s.out.now _ _ _ _ _ _ _ _ _ _ _ _ refl c.flag.ensures.0 c.put_text-a.ensures c.put_number-b.ensures c.put_answers-c.ensures c.put_processes-d.ensures c.put_text-e.ensures c.put_number.ensures
