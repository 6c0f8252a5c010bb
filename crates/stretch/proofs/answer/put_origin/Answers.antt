-- `put_origin`: two bytes, one behind the other.
use lib.ListN.{length-set}
use native.Mathlib.Numerals.{add-one}
use native.Mathlib.Omega.{arith}
use Rattle.stretch.proofs.answer.put_origin.Goals as goal

pub bounds-origins-at-2 : goal.bounds-origins-at-2
bounds-origins-at-2 c = simp length-set (omega arith)

pub shape_of-origins : goal.shape_of-origins
shape_of-origins c = simp length-set

pub returns : goal.returns
returns c = rw add-one
