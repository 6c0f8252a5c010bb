use Prim.Native.Nat.{◌*◌}
use lib.ListN.{length-set}
use Rattle.facts.specs.Laying.{three_put}
use native.Mathlib.Omega.{arith}
use Rattle.apart.proofs.take_placement.Goals as goal

pub bounds-out-p-2 : goal.bounds-out-p-2
bounds-out-p-2 c = simp length-set (omega arith)

pub bounds-out-p-3 : goal.bounds-out-p-3
bounds-out-p-3 c = simp length-set (omega arith)

pub returns : goal.returns
returns c =
    let s = c.args in
    three_put s.out.now (3 * s.p) _ _ _ _ _ _ c.byte_word.ensures.0 c.byte_word-2.ensures.0 c.byte_word-3.ensures.0
