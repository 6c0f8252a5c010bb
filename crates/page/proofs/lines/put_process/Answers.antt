use mathlib.Core.Path.{refl}
use Rattle.page.proofs.Lining.{process_put}
use Rattle.page.proofs.lines.put_process.Goals as goal

pub returns : goal.returns
returns c = let s = c.args in process_put s.report.now s.p _ s.out.now _ _ _ s.at _ _ _ refl c.put_text-a.ensures c.put_number-b.ensures c.put_state.ensures
