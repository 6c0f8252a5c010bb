use lib.ListN.{length-set}
use native.Mathlib.Omega.{arith}
use Rattle.records.proofs.Writing.{six_put}
use Rattle.records.proofs.store.put_six.Goals as goal

pub bounds-bytes-at-2 : goal.bounds-bytes-at-2
bounds-bytes-at-2 c = simp length-set (omega arith)

pub returns : goal.returns
returns c =
    let s = c.args in
    six_put s.bytes.now _ s.at s.first s.second s.word c.put_word.ensures
