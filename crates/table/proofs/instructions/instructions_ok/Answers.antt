use mathlib.Core.Path.{ap}
use mathlib.Core.Bool.{not}
use Rattle.table.proofs.Programs.{starts_within}
use Rattle.table.proofs.Walk.{going_start, going_end, going_within, going_fails, going_on, lent_fits, lent_size}
use native.Mathlib.Omega.{arith}
use Rattle.table.proofs.instructions.instructions_ok.Goals as goal

pub bounds-table-4 : goal.bounds-table-4
bounds-table-4 c = omega (arith, starts_within _ c.requires)

pub loop-p-init : goal.loop-p-init
loop-p-init c = going_start c.args.table.now c.records_start-at.result c.records_start-at.ensures

pub slice_bounds-rest-count : goal.slice_bounds-rest-count
slice_bounds-rest-count c = omega (arith, going_within c.args.table.now c.requires c.loop-p.at c.loop-p.p c.version_of-version.result c.version_of-version.ensures c.loop-p.invariant c.loop-p-test.true)

pub slice_bounds-rest-start : goal.slice_bounds-rest-start
slice_bounds-rest-start c = omega (arith, going_within c.args.table.now c.requires c.loop-p.at c.loop-p.p c.version_of-version.result c.version_of-version.ensures c.loop-p.invariant c.loop-p-test.true)

pub record_ok-requires : goal.record_ok-requires
record_ok-requires c = (starts_within _ c.requires, lent_fits c.args.table.now c.requires c.loop-p.at c.loop-p.p c.version_of-version.result c.version_of-version.ensures c.loop-p.invariant c.loop-p-test.true)

pub returns-then-not-record_ok : goal.returns-then-not-record_ok
returns-then-not-record_ok c = going_fails c.args.table.now c.requires c.loop-p.at c.loop-p.p c.version_of-version.result c.version_of-version.ensures c.loop-p.invariant c.loop-p-test.true _ c.record_ok.ensures (ap not c.if-not-record_ok.true)

pub overflow_add-at : goal.overflow_add-at
overflow_add-at c = omega (arith, lent_size c.args.table.now c.requires c.loop-p.at c.loop-p.p c.version_of-version.result c.version_of-version.ensures c.loop-p.invariant c.loop-p-test.true c.record_length-at.result c.record_length-at.ensures)

pub loop-p-preserved : goal.loop-p-preserved
loop-p-preserved c = going_on c.args.table.now c.requires c.loop-p.at c.loop-p.p c.version_of-version.result c.version_of-version.ensures c.loop-p.invariant c.loop-p-test.true _ c.record_ok.ensures (ap not c.if-not-record_ok.false) _ c.record_length-at.ensures

pub returns : goal.returns
returns c = going_end c.args.table.now c.requires c.loop-p.at c.loop-p.p c.loop-p.invariant c.loop-p-test.false
