use Prim.Native.Nat.{◌+◌, ◌*◌}
use lib.ListN.{get_or}
use Rattle.rules.specs.Encode.{instruction_bytes}
use Rattle.writer.specs.Fitted.{fit_byte}
use Rattle.facts.specs.Laying.{laying_more}
use Rattle.writer.proofs.Pieces.{program_next}
use native.Mathlib.Omega.{arith}
use Rattle.writer.proofs.lay.put_program.Goals as goal

pub loop-k-preserved : goal.loop-k-preserved
loop-k-preserved c =
    let s = c.args in
    let l = c.loop-k in
    let is = s.instructions.now in
    let j = 3 * (s.i + l.k) in
    laying_more (instruction_bytes (fit_byte (get_or is j 0)) (fit_byte (get_or is (j + 1) 0)) (get_or is (j + 2) 0)) _ _ _ l.invariant
    (program_next is s.i s.n l.k c.loop-k-test.true) c.put_instruction.ensures (omega arith)
