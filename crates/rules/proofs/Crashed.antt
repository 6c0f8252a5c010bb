-- The processes after a crash, one by one.
use mathlib.Core.Path.{◌≡◌, refl, ap, ◌∙◌}
use mathlib.Core.List.{List, [], ◌∷◌}
use Prim.Native.Nat.{ℕ, zero, suc, ◌+◌, ◌<◌}
use native.Mathlib.Omega.{arith}
use native.Mathlib.Nat.{le_of_suc-le-suc, not-suc-le-zero}
use lib.ListN.{length, get_or}
use Rattle.rules.specs.Table.{Table}
use Rattle.rules.specs.Cabinet.{Process, nobody}
use Rattle.rules.specs.Moves.{after_crash, all_after_crash}

pub crash-length : (t : Table) (b p : ℕ) (l : List Process) → length (all_after_crash t b p l) ≡ length l
unfolding all_after_crash
crash-length t b p [] = refl
crash-length t b p (x ∷ l) = ap suc (crash-length t b (suc p) l)

crash_from : (t : Table) (b p : ℕ) (l : List Process) (i : ℕ) → i < length l
    → get_or (all_after_crash t b p l) i nobody ≡ after_crash t b (p + i) (get_or l i nobody) (get_or l i nobody).standby
unfolding all_after_crash
crash_from t b p [] i h = absurd (not-suc-le-zero h)
crash_from t b p (x ∷ l) zero h = let e : p ≡ p + zero = omega arith in ap (λ (n : ℕ). after_crash t b n x x.standby) e
crash_from t b p (x ∷ l) (suc i) h =
    let e : suc p + i ≡ p + suc i = omega arith in
    crash_from t b (suc p) l i (le_of_suc-le-suc h) ∙ ap (λ (n : ℕ). after_crash t b n (get_or l i nobody) (get_or l i nobody).standby) e

pub crash_at : (t : Table) (b : ℕ) (l : List Process) (p : ℕ) → p < length l
    → get_or (all_after_crash t b 0 l) p nobody ≡ after_crash t b p (get_or l p nobody) (get_or l p nobody).standby
crash_at t b l p h =
    let e : 0 + p ≡ p = omega arith in
    crash_from t b 0 l p h ∙ ap (λ (n : ℕ). after_crash t b n (get_or l p nobody) (get_or l p nobody).standby) e
