-- The serials of a beginning of the sequence are numbers in a row, and no number stands twice in such a row.
use mathlib.Core.Path.{◌≡◌, refl, ap, ◌∙◌}
use mathlib.Core.List.{List, [], ◌∷◌, ◌++◌, IsPrefix}
use Prim.Native.Nat.{ℕ, zero, suc, ◌+◌, ◌<◌}
use native.Mathlib.Omega.{arith}
use lib.ListN.{length, get_or}
use Rattle.facts.specs.Tests.{no_way}
use Rattle.label_line.specs.Outlet.{labels, serials, in_a_row}

pub serials_in_a_row : (first : ℕ) (codes l : List ℕ) → IsPrefix l (labels first codes) → serials l ≡ in_a_row first (length (serials l))
unfolding labels serials in_a_row
serials_in_a_row first codes [] h = refl
serials_in_a_row first codes (c ∷ []) h = refl
serials_in_a_row first [] (c ∷ s ∷ l) (t, e) = absurd (no_way (cc))
serials_in_a_row first (code ∷ codes) (c ∷ s ∷ l) (t, e) =
    let same : s ≡ first = cc in
    let further : l ++ t ≡ labels (suc first) codes = cc in
    rw (same, ← serials_in_a_row (suc first) codes l (t, further)) refl

pub in_a_row_at : (first n i : ℕ) → i < n → get_or (in_a_row first n) i 0 ≡ first + i
unfolding in_a_row
in_a_row_at first zero i h = absurd (omega arith)
in_a_row_at first (suc n) zero h = omega arith
in_a_row_at first (suc n) (suc i) h = let e = in_a_row_at (suc first) n i (omega arith) in omega arith

-- no number twice
pub in_a_row_apart : (first : ℕ) (l : List ℕ) → l ≡ in_a_row first (length l) → (i j : ℕ) → i < length l → j < length l → get_or l i 0 ≡ get_or l j 0 → i ≡ j
in_a_row_apart first l h i j hi hj e =
    let a : get_or l i 0 ≡ first + i = ap (λ (z : List ℕ). get_or z i 0) h ∙ in_a_row_at first (length l) i hi in
    let b : get_or l j 0 ≡ first + j = ap (λ (z : List ℕ). get_or z j 0) h ∙ in_a_row_at first (length l) j hj in
    omega arith
