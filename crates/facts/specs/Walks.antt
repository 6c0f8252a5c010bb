-- A test over a range, tried number by number until one fails.
use Rattle.std.specs.Prelude.{◌≡◌, refl, Bool, true, false, not, ℕ, ◌+◌, ◌≤◌, ◌<◌}
use Rattle.std.proofs.Common.{ap, sym, ◌∙◌, arith, add-one}
use Rattle.std.proofs.lemmas.Bool.{not-true, not-false}
use Rattle.facts.specs.Tests.{all_below, and_both}
use Rattle.facts.specs.Ranges.{all_fails}

-- the first k of n pass
pub record Walked (f : ℕ → Bool) (n k : ℕ) : Type 0 where
  pub within : k ≤ n
  pub passed : all_below f k ≡ true

module _ (f : ℕ → Bool) (n : ℕ) where
  pub walk_start : Walked f n 0
  walk_start = record { within = omega arith; passed = refl }

  pub walk_on : (k : ℕ) (r : Bool) → Walked f n k → k < n → r ≡ f k → not r ≡ false → Walked f n (k + 1)
  walk_on k r w l e h =
      record { within = omega arith; passed = rw add-one (and_both (f k) (all_below f k) (sym e ∙ not-false r h) w.passed) }

  pub walk_fails : (k : ℕ) (r : Bool) → k < n → r ≡ f k → not r ≡ true → false ≡ all_below f n
  walk_fails k r l e h = sym (all_fails f n k l (sym e ∙ not-true r h))

  pub walk_end : (k : ℕ) → Walked f n k → n ≤ k → true ≡ all_below f n
  walk_end k w h = let l = w.within in let e : k ≡ n = omega arith in sym (ap (all_below f) (sym e) ∙ w.passed)
