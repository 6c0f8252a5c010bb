use mathlib.Core.Path.{◌≡◌}
use mathlib.Core.Bool.{false}
use Prim.Native.Nat.{◌≤◌}
use Rattle.sweep.specs.Counted.{some_held_in}
use Rattle.sweep.proofs.ending.some_held.Given as goal

abbrev pub invariant-loop-p : goal.invariant-loop-p
invariant-loop-p l = (l.n ≤ 16) × (l.p ≤ l.n) × (some_held_in l.report l.p ≡ false)
