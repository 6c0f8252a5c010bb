use mathlib.Core.Path.{refl, ap}
use mathlib.Core.List.{[], ◌∷◌}
use Prim.Native.Nat.{ℕ}
use native.Mathlib.Omega.{arith}
use Rattle.layout.proofs.Laying.{each_start, each_on, each-end}
use Rattle.layout.proofs.all.put_totals.Goals as goal

pub loop-k-init : goal.loop-k-init
loop-k-init c = each_start

pub loop-k-preserved : goal.loop-k-preserved
loop-k-preserved c = each_on (λ _. refl) c.loop-k.invariant c.loop-k-test.true (omega arith) (ap (λ (n : ℕ). n ∷ []) c.total_at.ensures) c.lay.ensures

pub returns : goal.returns
returns c = each-end c.loop-k.invariant c.loop-k-test.false
