-- Sums over a range, and tallies: lists of numbers that are added place by place.
use Rattle.std.specs.Prelude.{◌≡◌, refl, List, [], ◌∷◌, ℕ, zero, suc, ◌+◌, ◌≤◌, ◌<◌, length, get_or, set}
use Rattle.std.proofs.Common.{arith, get_or-set_same}
use Rattle.std.proofs.Math.ListN.{get_or-eq_default}
use Rattle.std.proofs.Math.Seq.{set_out}
use Rattle.facts.specs.Tests.{by_lt}

-- f 0 + .. + f (n - 1)
abbrev pub sum_below : (ℕ → ℕ) → ℕ → ℕ
sum_below f zero = 0
sum_below f (suc n) = f n + sum_below f n

pub sum_same : (f g : ℕ → ℕ) (n : ℕ) → ((i : ℕ) → i < n → f i ≡ g i) → sum_below f n ≡ sum_below g n
sum_same f g zero h = refl
sum_same f g (suc n) h = let a = h n (omega arith) in let b = sum_same f g n (λ i l. h i (omega arith)) in omega arith

pub sum_add : (f g : ℕ → ℕ) (n : ℕ) → sum_below (λ i. f i + g i) n ≡ sum_below f n + sum_below g n
sum_add f g zero = omega arith
sum_add f g (suc n) = let h = sum_add f g n in omega arith

-- two tallies added place by place
abbrev pub ◌⊕◌ : List ℕ → List ℕ → List ℕ
◌⊕◌ [] t = t
◌⊕◌ (a ∷ s) [] = a ∷ s
◌⊕◌ (a ∷ s) (b ∷ t) = (a + b) ∷ ◌⊕◌ s t

pub get_or-⊕ : (s t : List ℕ) (i : ℕ) → get_or (◌⊕◌ s t) i 0 ≡ get_or s i 0 + get_or t i 0
get_or-⊕ [] t i = omega arith
get_or-⊕ (a ∷ s) [] i = omega arith
get_or-⊕ (a ∷ s) (b ∷ t) zero = refl
get_or-⊕ (a ∷ s) (b ∷ t) (suc i) = get_or-⊕ s t i

-- a place of a tally set to what is no larger than it: right also where the tally has no such place
pub get_or_lowered : (t : List ℕ) (i v : ℕ) → v ≤ get_or t i 0 → get_or (set t i v) i 0 ≡ v
get_or_lowered t i v h =
    by_lt i (length t)
    (λ l. get_or-set_same t i v 0 l)
    (λ l. let a = get_or-eq_default t 0 {n = i} l in rw (set_out t i v l) (omega arith))
