use lib.ListN.{length-set}
use Rattle.records.proofs.Writing.{word_put}
use native.Mathlib.Omega.{arith}
use Rattle.records.proofs.store.put_word.Goals as goal

pub bounds-bytes-at-2 : goal.bounds-bytes-at-2
bounds-bytes-at-2 c = simp length-set (omega arith)

pub bounds-bytes-at-3 : goal.bounds-bytes-at-3
bounds-bytes-at-3 c = simp length-set (omega arith)

pub bounds-bytes-at-4 : goal.bounds-bytes-at-4
bounds-bytes-at-4 c = simp length-set (omega arith)

pub returns : goal.returns
returns c =
    let s = c in
    let b0 = c.low_byte in
    let b1 = c.low_byte-2 in
    let b2 = c.low_byte-3 in
    word_put s.args.bytes.now s.args.at s.args.word _ _ _ _ s.ranges.word.fits b0.ensures b1.ensures b2.ensures c.low_byte-4.ensures
