use Rattle.apart.proofs.Storing.{bytes_start, bytes_more, bytes_end}
use Rattle.apart.proofs.take_bytes.Goals as goal

pub loop-k-init : goal.loop-k-init
loop-k-init c = let s = c.args in bytes_start s.out.now s.table.now s.at s.n c.requires.0

pub loop-k-preserved : goal.loop-k-preserved
loop-k-preserved c =
    let s = c.args in
    let l = c.loop-k in
    bytes_more s.out.now s.table.now s.at s.n c.requires.0 _ l.k l.invariant _ c.loop-k-test.true c.byte_word.ensures.0

pub returns : goal.returns
returns c =
    let s = c.args in
    let l = c.loop-k in
    bytes_end s.out.now s.table.now s.at s.n c.requires.0 _ l.k l.invariant c.loop-k-test.false
