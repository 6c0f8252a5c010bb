use native.Mathlib.Omega.{arith}
use Rattle.layout.proofs.Laying.{laid}
use Rattle.layout.proofs.lay.lay.Goals as goal

pub returns : goal.returns
returns c =
    let x = c in
    laid x.args.out.now x.args.numbers.now _ x.args.at _ x.requires (omega arith) c.copy_from_slice.ensures.after
