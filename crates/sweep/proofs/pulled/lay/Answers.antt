use native.Mathlib.Omega.{arith}
use Rattle.sweep.proofs.Pulling.{laid}
use Rattle.sweep.proofs.pulled.lay.Goals as goal

pub returns : goal.returns
returns c =
    let x = c in
    laid x.args.out.now x.args.from.now _ x.args.at _ x.requires (omega arith) c.copy_from_slice.ensures.after
