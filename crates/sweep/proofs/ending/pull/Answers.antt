use Rattle.sweep.proofs.Endings.{pull_place, pull-long, pull-counted}
use native.Mathlib.Omega.{arith}
use Rattle.sweep.proofs.ending.pull.Goals as goal

pub put_in-requires : goal.put_in-requires
put_in-requires c =
    let x = c in
    record {
      has_place = pull_place x.args.table.now x.args.schedule.now x.args.counts x.args.place x.requires.admitted x.requires.place_bound;
      pulled_most_in_bounds = omega arith;
    }

pub slice_bounds-pulled-end : goal.slice_bounds-pulled-end
slice_bounds-pulled-end c =
    let x = c in
    let h = (pull_place x.args.table.now x.args.schedule.now x.args.counts x.args.place x.requires.admitted x.requires.place_bound).short in
    omega arith

pub slice_bounds-ending-end : goal.slice_bounds-ending-end
slice_bounds-ending-end c =
    let x = c in
    pull-long x.args.table.now x.args.schedule.now x.args.counts x.args.place x.requires.admitted x.requires.place_bound x.args.board _ c.put_in.ensures

pub returns : goal.returns
returns c =
    let x = c in
    pull-counted x.args.table.now x.args.schedule.now x.args.counts x.args.place x.requires.admitted x.requires.place_bound x.args.board _ c.put_in.ensures
    c.ending.result c.ending.ensures
