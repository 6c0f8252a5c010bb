use lib.ListN.{length-set}
use Rattle.apart.proofs.Storing.{taken_start, taken_more, taken-end}
use native.Mathlib.Omega.{arith}
use Rattle.apart.proofs.take_program.Goals as goal

pub loop-k-init : goal.loop-k-init
loop-k-init c = let s = c.args in taken_start s.out.now s.table.now s.at s.n s.i

pub bounds-out-j-in-loop-k : goal.bounds-out-j-in-loop-k
bounds-out-j-in-loop-k c = simp length-set (omega arith)

pub bounds-out-j-in-loop-k-2 : goal.bounds-out-j-in-loop-k-2
bounds-out-j-in-loop-k-2 c = simp length-set (omega arith)

pub loop-k-preserved : goal.loop-k-preserved
loop-k-preserved c =
    let s = c.args in
    let l = c.loop-k in
    taken_more s.out.now s.table.now s.at s.n s.i _ l.k l.invariant c.fetch-s.result _ c.loop-k-test.true c.requires.0 c.fetch-s.ensures c.byte_word.ensures.0

pub returns : goal.returns
returns c =
    let s = c.args in
    let l = c.loop-k in
    taken-end s.out.now s.table.now s.at s.n s.i _ l.k l.invariant c.loop-k-test.false
