use Rattle.page.proofs.Putting.{number_put}
use Rattle.page.proofs.text.put_number.Goals as goal

pub returns : goal.returns
returns c = let s = c.args in number_put c.spell-from.new.text s.out.now _ _ c.spell-from.result s.at _ _ s.n s.after c.spell-from.ensures.0 c.put_text-to.ensures c.put.ensures
