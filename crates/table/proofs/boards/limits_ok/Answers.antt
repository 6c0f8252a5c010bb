use mathlib.Core.Path.{ap}
use mathlib.Core.Bool.{not}
use Rattle.facts.specs.Walks.{walk_start, walk_on, walk_fails, walk_end}
use Rattle.table.specs.Parts.{limits_pass}
use Rattle.table.proofs.boards.limits_ok.Goals as goal

pub loop-p-init : goal.loop-p-init
loop-p-init c = walk_start _ _

pub returns-then-not-limit_ok : goal.returns-then-not-limit_ok
unfolding limits_pass
returns-then-not-limit_ok c =
    walk_fails _ _ c.loop-p.p _ c.loop-p-test.true c.limit_ok.ensures (ap not c.if-not-limit_ok.true)

pub loop-p-preserved : goal.loop-p-preserved
loop-p-preserved c =
    walk_on _ _ c.loop-p.p _ c.loop-p.invariant c.loop-p-test.true c.limit_ok.ensures (ap not c.if-not-limit_ok.false)

pub returns : goal.returns
unfolding limits_pass
returns c = walk_end _ _ c.loop-p.p c.loop-p.invariant c.loop-p-test.false
