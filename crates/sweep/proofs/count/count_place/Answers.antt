use mathlib.Core.Path.{refl}
use Rattle.rules.specs.Format.{decode_table}
use Rattle.rules.specs.Schedule.{decode_schedule}
use Rattle.sweep.proofs.Counting.{tallied, one_board-more, one_few, boards-few, boards-most, all_boards}
use native.Mathlib.Omega.{arith}
use Rattle.sweep.proofs.count.count_place.Goals as goal

pub loop-b-init : goal.loop-b-init
loop-b-init c = (omega arith, record { quiet_is = refl; held-is = refl; free-is = refl })

pub pull-e-requires : goal.pull-e-requires
pull-e-requires c =
    let x = c in
    let high = boards-most x.args.table.now x.args.schedule.now x.args.counts x.requires.admitted in
    record {
      admitted = x.requires.admitted;
      place_bound = x.requires.place_bound;
      board_bound = omega arith;
    }

pub overflow_add-quiet : goal.overflow_add-quiet
overflow_add-quiet c =
    let x = c in
    let l = c.loop-b in
    let e = c.pull-e in
    let high = boards-most x.args.table.now x.args.schedule.now x.args.counts x.requires.admitted in
    let a = (boards-few (decode_table x.args.table.now) (decode_schedule x.args.schedule.now) x.args.place l.b (tallied l.quiet l.held l.free) l.invariant.1).quiet-few in
    let b = (one_few _ e.result e.ensures).quiet-few in
    omega arith

pub overflow_add-held : goal.overflow_add-held
overflow_add-held c =
    let x = c in
    let l = c.loop-b in
    let e = c.pull-e in
    let high = boards-most x.args.table.now x.args.schedule.now x.args.counts x.requires.admitted in
    let a = (boards-few (decode_table x.args.table.now) (decode_schedule x.args.schedule.now) x.args.place l.b (tallied l.quiet l.held l.free) l.invariant.1).held-few in
    let b = (one_few _ e.result e.ensures).held-few in
    omega arith

pub overflow_add-free : goal.overflow_add-free
overflow_add-free c =
    let x = c in
    let l = c.loop-b in
    let e = c.pull-e in
    let high = boards-most x.args.table.now x.args.schedule.now x.args.counts x.requires.admitted in
    let a = (boards-few (decode_table x.args.table.now) (decode_schedule x.args.schedule.now) x.args.place l.b (tallied l.quiet l.held l.free) l.invariant.1).free-few in
    let b = (one_few _ e.result e.ensures).free-few in
    omega arith

pub loop-b-preserved : goal.loop-b-preserved
loop-b-preserved c =
    let x = c in
    let l = c.loop-b in
    let e = c.pull-e in
    (omega arith, one_board-more (decode_table x.args.table.now) (decode_schedule x.args.schedule.now) x.args.place l.b (tallied l.quiet l.held l.free) e.result l.invariant.1 e.ensures)

pub returns : goal.returns
returns c =
    let x = c in
    let l = c.loop-b in
    all_boards x.args.table.now x.args.schedule.now x.args.counts x.requires.admitted x.args.place l.b l.invariant.0 c.loop-b-test.false _ l.invariant.1
