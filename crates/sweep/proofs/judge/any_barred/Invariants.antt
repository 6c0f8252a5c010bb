use Prim.Native.Nat.{◌≤◌}
use Rattle.sweep.proofs.Judging.{NoneBefore}
use Rattle.sweep.proofs.judge.any_barred.Given as goal

abbrev pub invariant-loop-i : goal.invariant-loop-i
invariant-loop-i l = (l.i ≤ l.records) × NoneBefore l.schedule l.records l.i
