use mathlib.Core.Path.{◌∙◌, sym, ap₂}
use Rattle.facts.specs.Lists.{part-rest}
use Rattle.table.specs.Parts.{record_in}
use Rattle.table.proofs.Extents.{extending_start, extending_on, extending_refused, extending_end, no_pairs, extent_says}
use native.Mathlib.Omega.{arith}
use Rattle.table.proofs.extent.extent_ok.Goals as goal

pub returns-then-at-table : goal.returns-then-at-table
returns-then-at-table c = no_pairs c.args.table.now c.records_start-at.result c.records_start-at.ensures c.if-at-table.true

pub loop-init : goal.loop-init
loop-init c = extending_start _ _ _ c.records_start-at.ensures c.if-at-table.false

pub returns-in_default : goal.returns-in_default
returns-in_default c =
    let t = c.args.table.now in
    let l = c.loop in
    let s = c.records_start-at in
    let n = c.byte_wide-processes in
    sym (extent_says t s.result n.result s.ensures c.if-at-table.false (n.ensures.0 ∙ c.byte.ensures)
    ∙ extending_refused t n.result l.at l.counter l.invariant c.loop-test.true
    (c.in_default.ensures ∙ ap₂ record_in c.version_of-version.ensures (part-rest t l.at)))

pub overflow_add-at : goal.overflow_add-at
overflow_add-at c =
    let t = c.args.table.now in
    let l = c.loop in
    let x =
    extending_on t _ l.at l.counter l.invariant c.loop-test.true _
    (c.in-Some.ensures ∙ ap₂ record_in c.version_of-version.ensures (part-rest t l.at)) in
    omega (arith, x.within)

pub loop-preserved : goal.loop-preserved
loop-preserved c =
    let t = c.args.table.now in
    let l = c.loop in
    extending_on t _ l.at l.counter l.invariant c.loop-test.true _
    (c.in-Some.ensures ∙ ap₂ record_in c.version_of-version.ensures (part-rest t l.at))

pub returns : goal.returns
returns c =
    let t = c.args.table.now in
    let l = c.loop in
    let s = c.records_start-at in
    let n = c.byte_wide-processes in
    sym (extent_says t s.result n.result s.ensures c.if-at-table.false (n.ensures.0 ∙ c.byte.ensures)
    ∙ extending_end t n.result l.at l.counter l.invariant c.loop-test.false)
