use mathlib.Core.Path.{refl}
use Rattle.page.proofs.Paging.{refused_put}
use Rattle.page.proofs.put_refused.Goals as goal

pub returns : goal.returns
returns c = let s = c.args in refused_put s.number _ s.out.now _ _ _ _ refl c.put_text-a.ensures c.put_number.ensures
