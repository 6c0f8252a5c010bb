use mathlib.Core.Path.{ap}
use mathlib.Core.Bool.{not}
use Rattle.outcome.proofs.Quieting.{quiets_not_beside, quiets_so_beside}
use Rattle.outcome.proofs.quiet.quiescent.Goals as goal

pub returns-then-not-all_rest : goal.returns-then-not-all_rest
returns-then-not-all_rest c =
    let s = c.args in
    let r = c.all_rest in
    quiets_not_beside s.table.now s.plan.now s.store.now r.result r.ensures (ap not c.if-not-all_rest.true)

pub returns : goal.returns
returns c =
    let s = c.args in
    let r = c.all_rest in
    quiets_so_beside s.table.now s.plan.now s.store.now r.result r.ensures _ (ap not c.if-not-all_rest.false) c.all_empty.ensures
