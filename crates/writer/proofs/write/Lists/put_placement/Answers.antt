use mathlib.Core.Path.{ap}
use Prim.Native.Nat.{ℕ, ◌+◌, ◌-◌}
use Rattle.writer.specs.Given.{given_by}
use Rattle.writer.proofs.Pieces.{limited_put, unlimited_put}
use Rattle.writer.proofs.write.Lists.put_placement.Goals as goal
use Rattle.writer.proofs.write.Lists.put_placement.Goals.{then-self-eq-WITH_LIMITS, else-self-eq-WITH_LIMITS}

pub returns : goal.returns
returns c =
    let s = c.args in
    let x = given_by s.self.now in
    let e = c.record_head.ensures.0 in
    let i = ap (λ (n : ℕ). s.at + n - 1) e in
    elim c.if-self-eq-WITH_LIMITS.branch [
      | then-self-eq-WITH_LIMITS w ↦
          rw w.bytes-is (limited_put s.bytes.now s.at x s.p _ _ _ _ _ i c.fit.ensures c.fit-2.ensures c.fit-3.ensures
          w.if-self-eq-WITH_LIMITS.true w.fit-then-self-eq-WITH_LIMITS.ensures)
      | else-self-eq-WITH_LIMITS w ↦
          rw w.bytes-is (unlimited_put s.bytes.now s.at x s.p _ _ _ 0 _ i c.fit.ensures c.fit-2.ensures c.fit-3.ensures w.if-self-eq-WITH_LIMITS.false)
    ]
