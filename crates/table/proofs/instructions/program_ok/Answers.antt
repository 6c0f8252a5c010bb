use mathlib.Core.Path.{ap, ◌∙◌}
use mathlib.Core.Bool.{not}
use Rattle.facts.specs.Walks.{walk_start, walk_on, walk_fails, walk_end}
use Rattle.rules.specs.Format.{decode_table}
use Rattle.table.specs.Judging.{passes, program_ok}
use Rattle.table.proofs.Walk.{place_passes}
use Rattle.table.proofs.instructions.program_ok.Goals as goal

pub loop-k-init : goal.loop-k-init
loop-k-init c = walk_start _ _

pub returns-then-not-instruction_ok : goal.returns-then-not-instruction_ok
unfolding program_ok
returns-then-not-instruction_ok c =
    let s = c.args in
    let k = c.loop-k.k in
    let t = decode_table s.table.now in
    walk_fails (place_passes t s.p s.n s.program.now) s.n k c.instruction_ok.result c.loop-k-test.true (c.instruction_ok.ensures ∙ ap (passes t s.p s.n) c.fetch.ensures) (ap not c.if-not-instruction_ok.true)

pub loop-k-preserved : goal.loop-k-preserved
loop-k-preserved c =
    let s = c.args in
    let k = c.loop-k.k in
    let t = decode_table s.table.now in
    walk_on (place_passes t s.p s.n s.program.now) s.n k c.instruction_ok.result c.loop-k.invariant c.loop-k-test.true (c.instruction_ok.ensures ∙ ap (passes t s.p s.n) c.fetch.ensures) (ap not c.if-not-instruction_ok.false)

pub returns : goal.returns
unfolding program_ok
returns c = walk_end _ _ c.loop-k.k c.loop-k.invariant c.loop-k-test.false
