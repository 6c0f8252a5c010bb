use Rattle.page.proofs.Lining.{registers_put}
use Rattle.page.proofs.lines.put_registers.Goals as goal

pub returns : goal.returns
returns c = let s = c.args in registers_put s.report.now s.from _ _ _ _ s.out.now _ _ _ _ s.at _ _ _ _ c.word.ensures c.word-2.ensures c.word-3.ensures c.word-4.ensures c.put_number-a.ensures c.put_number-b.ensures c.put_number-c.ensures c.put_number.ensures
