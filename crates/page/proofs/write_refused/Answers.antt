use Rattle.page.proofs.Paging.{refused-some, no_room, with_room}
use Rattle.rules.specs.Page.{refused_line}
use native.Mathlib.Omega.{arith}
use Rattle.page.proofs.write_refused.Goals as goal

pub returns-then-needed-out : goal.returns-then-needed-out
returns-then-needed-out c = let s = c in no_room (refused_line s.args.number) s.args.out.now _ _ _ (refused-some s.args.number) (let g = s.well_formed in omega arith) c.put_refused-needed.ensures c.if-needed-out.true

pub returns : goal.returns
returns c = let s = c in with_room (refused_line s.args.number) s.args.out.now _ _ _ _ _ (refused-some s.args.number) (let g = s.well_formed in omega arith) c.put_refused-needed.ensures c.if-needed-out.false c.put_refused.ensures
