use mathlib.Core.Path.{refl}
use Rattle.rules.specs.Format.{decode_table}
use Rattle.rules.specs.Schedule.{decode_schedule}
use Rattle.sweep.proofs.Counting.{tallied, one_place_more, boards-few, places_few, boards-most, records-most, all_places}
use native.Mathlib.Omega.{arith}
use Rattle.sweep.proofs.count.count_all.Goals as goal

pub loop-place-init : goal.loop-place-init
loop-place-init c = (omega arith, record { quiet_is = refl; held-is = refl; free-is = refl })

pub count_place-e-requires : goal.count_place-e-requires
count_place-e-requires c =
    let x = c in
    let e = x.requires.records_value in
    record {
      admitted = x.requires.admitted;
      place_bound = omega arith;
    }

pub overflow_add-quiet : goal.overflow_add-quiet
overflow_add-quiet c =
    let x = c in
    let l = c.loop-place in
    let e = c.count_place-e in
    let high = boards-most x.args.table.now x.args.schedule.now x.args.counts x.requires.admitted in
    let same = x.requires.admitted.boards-is in
    let few = records-most x.args.table.now x.args.schedule.now x.args.counts x.requires.admitted in
    let many = x.requires.records_value in
    let a = (places_few (decode_table x.args.table.now) (decode_schedule x.args.schedule.now) (omega arith) l.place (tallied l.quiet l.held l.free) l.invariant.1).quiet-few in
    let b = (boards-few (decode_table x.args.table.now) (decode_schedule x.args.schedule.now) l.place (decode_table x.args.table.now).boards e.result e.ensures).quiet-few in
    omega arith

pub overflow_add-held : goal.overflow_add-held
overflow_add-held c =
    let x = c in
    let l = c.loop-place in
    let e = c.count_place-e in
    let high = boards-most x.args.table.now x.args.schedule.now x.args.counts x.requires.admitted in
    let same = x.requires.admitted.boards-is in
    let few = records-most x.args.table.now x.args.schedule.now x.args.counts x.requires.admitted in
    let many = x.requires.records_value in
    let a = (places_few (decode_table x.args.table.now) (decode_schedule x.args.schedule.now) (omega arith) l.place (tallied l.quiet l.held l.free) l.invariant.1).held-few in
    let b = (boards-few (decode_table x.args.table.now) (decode_schedule x.args.schedule.now) l.place (decode_table x.args.table.now).boards e.result e.ensures).held-few in
    omega arith

pub overflow_add-free : goal.overflow_add-free
overflow_add-free c =
    let x = c in
    let l = c.loop-place in
    let e = c.count_place-e in
    let high = boards-most x.args.table.now x.args.schedule.now x.args.counts x.requires.admitted in
    let same = x.requires.admitted.boards-is in
    let few = records-most x.args.table.now x.args.schedule.now x.args.counts x.requires.admitted in
    let many = x.requires.records_value in
    let a = (places_few (decode_table x.args.table.now) (decode_schedule x.args.schedule.now) (omega arith) l.place (tallied l.quiet l.held l.free) l.invariant.1).free-few in
    let b = (boards-few (decode_table x.args.table.now) (decode_schedule x.args.schedule.now) l.place (decode_table x.args.table.now).boards e.result e.ensures).free-few in
    omega arith

pub overflow_add-place-end : goal.overflow_add-place-end
overflow_add-place-end c =
    let x = c in
    let few = records-most x.args.table.now x.args.schedule.now x.args.counts x.requires.admitted in
    let e = x.requires.records_value in
    omega arith

pub loop-place-preserved : goal.loop-place-preserved
loop-place-preserved c =
    let x = c in
    let l = c.loop-place in
    let e = c.count_place-e in
    (omega arith, one_place_more (decode_table x.args.table.now) (decode_schedule x.args.schedule.now) l.place (tallied l.quiet l.held l.free) e.result l.invariant.1 e.ensures)

pub returns : goal.returns
returns c =
    let x = c in
    let l = c.loop-place in
    all_places x.args.table.now x.args.schedule.now x.args.counts x.requires.admitted l.place x.args.records l.invariant.0 (let z = c.loop-place-test.false in omega arith) _ l.invariant.1
