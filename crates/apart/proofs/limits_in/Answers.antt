use mathlib.Core.Path.{ap, sym, ◌∙◌}
use mathlib.Core.Bool.{Bool, cond}
use Prim.Native.Nat.{ℕ, ◌*◌}
use lib.Dec.{eqb}
use borrow.Author.Tests.{eq-eqb, ne_eqb}
use Rattle.rules.specs.Format.{processes_in}
use native.Mathlib.Omega.{arith}
use Rattle.apart.proofs.limits_in.Goals as goal

pub returns-then-version_of-eq-WITH_LIMITS : goal.returns-then-version_of-eq-WITH_LIMITS
returns-then-version_of-eq-WITH_LIMITS c =
    let t = c.args.table.now in
    let e = c.version_of.ensures in
    let a = ap (λ (w : Bool). cond w 1 0 * processes_in t) (sym (ap (λ (k : ℕ). eqb k 2) e) ∙ eq-eqb c.version_of.result 2 c.if-version_of-eq-WITH_LIMITS.true) in
    let b = c.byte_wide.ensures.0 ∙ c.byte.ensures in
    omega arith

pub returns-else-version_of-eq-WITH_LIMITS : goal.returns-else-version_of-eq-WITH_LIMITS
returns-else-version_of-eq-WITH_LIMITS c =
    let t = c.args.table.now in
    let e = c.version_of.ensures in
    let a = ap (λ (w : Bool). cond w 1 0 * processes_in t) (sym (ap (λ (k : ℕ). eqb k 2) e) ∙ ne_eqb c.version_of.result 2 c.if-version_of-eq-WITH_LIMITS.false) in
    omega arith
