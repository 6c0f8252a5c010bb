-- The k-th six bytes, wherever a list of sixes begins: what the rules make of them is what stands at that place.
use mathlib.Core.Path.{◌≡◌, refl, ap, sym, ◌∙◌}
use mathlib.Core.List.{List}
use Prim.Native.Nat.{ℕ, zero, suc, ◌+◌, ◌-◌, ◌*◌, ◌/◌, ◌≤◌, ◌<◌}
use native.Mathlib.Omega.{arith}
use native.Mathlib.Nat.{not-suc-le-zero, le_of_suc-le-suc, add_assoc}
use lib.ListN.{length, get_or, take, drop, length-drop, get_or-eq_default}
use lib.Seq.{get_or-drop}
use Rattle.facts.specs.Lists.{part-rest}
use Rattle.rules.specs.Bytes.{byte_at, number32, sixes}
use Rattle.rules.proofs.Valid.{length-sixes}
use Rattle.records.specs.Six.{six, six_of, six_at}
use Rattle.records.specs.declared.six.Six.{Six}

module _ {A : Type 0} (make : ℕ → ℕ → ℕ → A) where
  -- what is made of the six bytes from i on
  abbrev pub made_at : List ℕ → ℕ → A
  made_at l i =
      make (byte_at l i) (byte_at l (i + 1)) (number32 (byte_at l (i + 2)) (byte_at l (i + 3)) (byte_at l (i + 4)) (byte_at l (i + 5)))

  made-drop : (l : List ℕ) (at i : ℕ) → made_at (drop at l) i ≡ made_at l (at + i)
  made-drop l at i = simp (get_or-drop, add_assoc)

  pub six_at_lem : (n : ℕ) (l : List ℕ) (k : ℕ) (d : A) → k < n → get_or (sixes make n l) k d ≡ made_at l (6 * k)
  six_at_lem zero l k d h = absurd (not-suc-le-zero h)
  six_at_lem (suc n) l zero d h = refl
  six_at_lem (suc n) l (suc k) d h =
      six_at_lem n (drop 6 l) k d (le_of_suc-le-suc h) ∙ made-drop l 6 (6 * k) ∙ ap (made_at l) (omega arith)

  pub six_past : (n : ℕ) (l : List ℕ) (k : ℕ) (d : A) → n ≤ k → get_or (sixes make n l) k d ≡ d
  six_past n l k d h = get_or-eq_default (sixes make n l) d (rw (length-sixes make n l) h)

  -- from byte `at` on
  pub six_from : (n : ℕ) (l : List ℕ) (at k : ℕ) (d : A) → k < n → get_or (sixes make n (drop at l)) k d ≡ made_at l (at + 6 * k)
  six_from n l at k d h = six_at_lem n (drop at l) k d h ∙ made-drop l at (6 * k)

  -- whatever is made is made of the six numbers
  pub made_of_six : (n : ℕ) (l : List ℕ) (k : ℕ)
      → get_or (sixes make n l) k (make 0 0 0)
      ≡ make (get_or (sixes six n l) k (six 0 0 0)).first (get_or (sixes six n l) k (six 0 0 0)).second (get_or (sixes six n l) k (six 0 0 0)).word
  made_of_six zero l k = refl
  made_of_six (suc n) l zero = refl
  made_of_six (suc n) l (suc k) = made_of_six n (drop 6 l) k

  -- so the code's six numbers say what is made of the part from byte `at` on
  pub made_of_part : (l : List ℕ) (at k : ℕ) (s : Six) → s ≡ six_of (take (length l - at) (drop at l)) k
      → make s.first s.second s.word ≡ get_or (sixes make ((length l - at) / 6) (drop at l)) k (make 0 0 0)
  unfolding six_of
  made_of_part l at k s e =
      ap (λ (x : Six). make x.first x.second x.word)
      (e ∙ ap (λ (part : List ℕ). get_or (sixes six (length part / 6) part) k (six 0 0 0)) (part-rest l at)
      ∙ ap (λ (n : ℕ). get_or (sixes six (n / 6) (drop at l)) k (six 0 0 0)) (length-drop at l))
      ∙ sym (made_of_six ((length l - at) / 6) (drop at l) k)

  -- and zeros where it would begin behind the end
  pub made_of_none : (l : List ℕ) (at k : ℕ) → length l < at → make 0 0 0 ≡ get_or (sixes make ((length l - at) / 6) (drop at l)) k (make 0 0 0)
  made_of_none l at k h = sym (six_past ((length l - at) / 6) (drop at l) k (make 0 0 0) (omega arith))

-- ---- the code's six

pub no_six : (l : List ℕ) (k : ℕ) → length l / 6 ≤ k → six 0 0 0 ≡ six_of l k
unfolding six_of
no_six l k h = sym (six_past six (length l / 6) l k (six 0 0 0) h)

pub whole-six : (l : List ℕ) (k : ℕ) → k < length l / 6 → six_at l (6 * k) ≡ six_of l k
unfolding six_of
whole-six l k h = sym (six_at_lem six (length l / 6) l k (six 0 0 0) h)
