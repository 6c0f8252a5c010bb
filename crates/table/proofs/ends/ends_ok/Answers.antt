use mathlib.Core.Path.{ap}
use mathlib.Core.Bool.{not}
use Rattle.facts.specs.Walks.{walk_start, walk_on, walk_fails, walk_end}
use Rattle.table.proofs.EndsPass.{pair-passes, ends_are}
use Rattle.table.proofs.ends.ends_ok.Goals as goal

pub loop-k-init : goal.loop-k-init
loop-k-init c = (c.byte_wide-channels.ensures.1, walk_start _ _)

pub returns-then-not-pair_ok : goal.returns-then-not-pair_ok
returns-then-not-pair_ok c =
    let t = c.args.table.now in
    let here = pair-passes t c.loop-k.k _ _ _ c.byte-processes.ensures c.byte-sender.ensures c.byte-reader.ensures c.pair_ok.ensures in
    rw (← ends_are t, ← c.byte.ensures, ← c.byte_wide-channels.ensures.0) (walk_fails _ _ c.loop-k.k _ c.loop-k-test.true here (ap not c.if-not-pair_ok.true))

pub loop-k-preserved : goal.loop-k-preserved
loop-k-preserved c =
    let t = c.args.table.now in
    let here = pair-passes t c.loop-k.k _ _ _ c.byte-processes.ensures c.byte-sender.ensures c.byte-reader.ensures c.pair_ok.ensures in
    (c.loop-k.invariant.0, walk_on _ _ c.loop-k.k _ c.loop-k.invariant.1 c.loop-k-test.true here (ap not c.if-not-pair_ok.false))

pub returns : goal.returns
returns c =
    rw (← ends_are c.args.table.now, ← c.byte.ensures, ← c.byte_wide-channels.ensures.0) (walk_end _ _ c.loop-k.k c.loop-k.invariant.1 c.loop-k-test.false)
