use Rattle.page.proofs.Lining.{state_put}
use Rattle.page.proofs.lines.put_state.Goals as goal

pub returns : goal.returns
returns c = let s = c.args in state_put s.report.now s.from _ _ _ _ s.out.now _ _ _ _ _ s.at _ _ _ _ _ c.byte.ensures.0 c.byte-2.ensures.0 c.byte-3.ensures.0 c.byte-4.ensures.0 c.put_number-a.ensures c.put_number-b.ensures c.put_number-c.ensures c.put_number-d.ensures c.put_registers.ensures
