use Rattle.bench_input.proofs.Printing.{part-long, benched}
use native.Mathlib.Omega.{arith}
use Rattle.bench_input.proofs.bench.bench.Goals as goal

pub slice_bounds-run_page-end : goal.slice_bounds-run_page-end
slice_bounds-run_page-end c = part-long c.args.input.now c.least-n.result (let e = c.least-n.ensures in omega arith)

pub returns : goal.returns
returns c =
    let s = c.args in
    benched s.input.now c.length_field.result c.length_field.ensures.0 c.least-n.result c.least-n.ensures _ _ _ c.run_page.ensures
