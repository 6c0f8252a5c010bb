use mathlib.Core.Path.{sym, ◌∙◌}
use Rattle.rejoin.proofs.Rejoining.{rejoins_48, rejoins-done}
use Rattle.rejoin.proofs.rejoin.rejoin.Goals as goal

pub returns-then-live-clause-rejoins : goal.returns-then-live-clause-rejoins
returns-then-live-clause-rejoins c = rejoins_48 c.args.store.now c.args.a c.index-b.result c.index-b.ensures.1 _ (sym c.is_dead-live.ensures ∙ c.if-live.true) c.refusal_for.ensures

pub returns-clause-rejoins : goal.returns-clause-rejoins
returns-clause-rejoins c = rw c.answer_for.ensures (rejoins-done c.args.store.now c.args.a c.index-b.result c.index-b.ensures.1 _ (sym c.is_dead-live.ensures ∙ c.if-live.false) c.revive.ensures)
