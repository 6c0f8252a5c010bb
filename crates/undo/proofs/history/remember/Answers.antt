-- `remember`: the bytes of those records are copied behind those that are held.
use native.Mathlib.Omega.{arith}
use Rattle.undo.proofs.Remembering.{copied, remembered}
use Rattle.undo.proofs.history.remember.Goals as goal

pub slice_bounds-copy_from_slice-end-2 : goal.slice_bounds-copy_from_slice-end-2
slice_bounds-copy_from_slice-end-2 c = let f = c.requires.fits in omega arith

pub returns : goal.returns
returns c =
    remembered c.requires
    (copied c.args.schedule.now c.args.history.now _ _ _ _ _ c.copy_from_slice.ensures.after (omega arith) (omega arith) (omega arith))
    (omega arith)
