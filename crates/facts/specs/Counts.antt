-- Sums over lists, how often a number occurs in a list, and how long a list is at most by what occurs in it.
use Rattle.std.specs.Prelude.{◌≢◌, ◌≡◌, refl, Bool, true, false, cond, List, [], ◌∷◌, ◌++◌, ℕ, zero, suc, ◌+◌, ◌*◌, ◌≤◌, ◌<◌, eqb, length, get_or, set, replicate}
use Rattle.std.proofs.Common.{ap, sym, ◌∙◌, arith, le_of_suc-le-suc, not-suc-le-zero, mul-suc, eq-eqb, ne_eqb}
use Rattle.std.proofs.Math.ListN.{get_or-eq_default}
use Rattle.facts.specs.Tests.{by_eq}

-- ---- the sum of a weight over a list

abbrev pub total : {A : Type 0} → (A → ℕ) → List A → ℕ
total w [] = 0
total w (x ∷ l) = w x + total w l

module _ {A : Type 0} (w : A → ℕ) where
  pub total_append : (l r : List A) → total w (l ++ r) ≡ total w l + total w r
  total_append [] r = omega arith
  total_append (x ∷ l) r = let h = total_append l r in omega arith

  pub total-set : (l : List A) (i : ℕ) (x d : A) → i < length l → total w (set l i x) + w (get_or l i d) ≡ total w l + w x
  total-set [] i x d h = absurd (not-suc-le-zero h)
  total-set (y ∷ l) zero x d h = omega arith
  total-set (y ∷ l) (suc i) x d h = let n = total-set l i x d (le_of_suc-le-suc h) in omega arith

  -- what weighs nothing, put in anywhere, adds nothing
  pub total-set_less : (l : List A) (i : ℕ) (x : A) → w x ≡ 0 → total w (set l i x) ≤ total w l
  total-set_less [] i x h = omega arith
  total-set_less (y ∷ l) zero x h = omega arith
  total-set_less (y ∷ l) (suc i) x h = let n = total-set_less l i x h in omega arith

  pub total-replicate : (n : ℕ) (x : A) → w x ≡ 0 → total w (replicate n x) ≡ 0
  total-replicate zero x h = refl
  total-replicate (suc n) x h = let m = total-replicate n x h in omega arith

-- every element but the one at b weighs nothing
pub total_one : {A : Type 0} (w : A → ℕ) (l : List A) (b : ℕ) (d : A) → w d ≡ 0 → ((j : ℕ) → j ≢ b → w (get_or l j d) ≡ 0)
    → total w l ≡ w (get_or l b d)
total_one w [] b d z h = sym z
total_one w (x ∷ l) zero d z h = let a = total_one w l (length l) d z (λ j _. h (suc j) (λ e. absurd (omega arith))) in
    let e = ap w (get_or-eq_default l d {n = length l} (omega arith)) in omega arith
total_one w (x ∷ l) (suc b) d z h =
    let a = h zero (λ e. absurd (omega arith)) in let e = total_one w l b d z (λ j n. h (suc j) (λ f. n (omega arith))) in omega arith

pub total_ones : {A : Type 0} (l : List A) → total (λ (_ : A). 1) l ≡ length l
total_ones [] = refl
total_ones (x ∷ l) = let h = total_ones l in omega arith

-- ---- how often a number occurs

-- 1 if the two are the same, 0 if not
abbrev pub same : ℕ → ℕ → ℕ
same k c = cond (eqb k c) 1 0

abbrev pub occurs : ℕ → List ℕ → ℕ
occurs k l = total (same k) l

pub same_yes : (k c : ℕ) → k ≡ c → same k c ≡ 1
same_yes k c h = rw (eq-eqb k c h)

pub same_no : (k c : ℕ) → k ≢ c → same k c ≡ 0
same_no k c h = rw (ne_eqb k c h)

same_symmetric : (k c : ℕ) → same k c ≡ same c k
same_symmetric k c = by_eq k c (λ e. same_yes k c e ∙ sym (same_yes c k (sym e))) (λ n. same_no k c n ∙ sym (same_no c k (λ e. n (sym e))))

pub occurs_at : (l : List ℕ) (i d : ℕ) → i < length l → 1 ≤ occurs (get_or l i d) l
occurs_at [] i d h = absurd (not-suc-le-zero h)
occurs_at (x ∷ l) zero d h = let a = same_yes x x refl in omega arith
occurs_at (x ∷ l) (suc i) d h = let a = occurs_at l i d (le_of_suc-le-suc h) in omega arith

-- one more where the test passes
pub cond_more : (b : Bool) (n : ℕ) → cond b (suc n) n ≡ cond b 1 0 + n
cond_more true n = omega arith
cond_more false n = omega arith

-- ---- from how often each number occurs to the length

abbrev without : ℕ → List ℕ → List ℕ
without c [] = []
without c (x ∷ xs) = cond (eqb c x) (without c xs) (x ∷ without c xs)

without-length : (c : ℕ) (xs : List ℕ) → length xs ≡ occurs c xs + length (without c xs)
without-length c [] = omega arith
without-length c (x ∷ xs) = go (eqb c x) (without-length c xs)
  where
    go : (b : Bool) → length xs ≡ occurs c xs + length (without c xs)
        → suc (length xs) ≡ cond b 1 0 + occurs c xs + length (cond b (without c xs) (x ∷ without c xs))
    go true h = omega arith
    go false h = omega arith

without-same : (c : ℕ) (xs : List ℕ) → occurs c (without c xs) ≡ 0
without-same c [] = refl
without-same c (x ∷ xs) =
    by_eq c x
    (λ e. rw (eq-eqb c x e) (without-same c xs))
    (λ n. rw (ne_eqb c x n) (let a = same_no c x n in let b = without-same c xs in omega arith))

without_other : (k c : ℕ) (xs : List ℕ) → k ≢ c → occurs k (without c xs) ≡ occurs k xs
without_other k c [] n = refl
without_other k c (x ∷ xs) n =
    by_eq c x
    (λ e. rw (eq-eqb c x e) (let a = same_no k x (λ f. n (f ∙ sym e)) in let b = without_other k c xs n in omega arith))
    (λ m. rw (ne_eqb c x m) (let b = without_other k c xs n in omega arith))

nothing-occurs : (xs : List ℕ) → ((k : ℕ) → occurs k xs ≡ 0) → length xs ≡ 0
nothing-occurs [] h = refl
nothing-occurs (x ∷ xs) h = absurd (let a = h x in let b = same_yes x x refl in omega arith)

-- Only numbers of l occur, and each at most `most` times and as often again as in `extra`.
pub length_by_counts : (most : ℕ) (l xs extra : List ℕ) → ((k : ℕ) → occurs k l ≡ 0 → occurs k xs ≡ 0)
    → ((k : ℕ) → occurs k xs ≤ most + occurs k extra) → length xs ≤ most * length l + length extra
length_by_counts most [] xs extra within few = let h = nothing-occurs xs (λ k. within k refl) in omega arith
length_by_counts most (c ∷ l) xs extra within few =
    let rest : length (without c xs) ≤ most * length l + length (without c extra) =
    length_by_counts most l (without c xs) (without c extra)
    (λ k h. by_eq k c
    (λ e. rw e (without-same c xs))
    (λ n. let a = same_no k c n in let z : occurs k (c ∷ l) ≡ 0 = omega arith in without_other k c xs n ∙ within k z))
    (λ k. by_eq k c
    (λ e. let z : occurs k (without c xs) ≡ 0 = rw e (without-same c xs) in omega arith)
    (λ n. let a = few k in let b = without_other k c xs n in let d = without_other k c extra n in omega arith)) in
    let here = few c in
    let a = without-length c xs in
    let b = without-length c extra in
    let d : most * length (c ∷ l) ≡ most * length l + most = mul-suc most (length l) in
    omega arith

-- ---- sums over numbers that differ

-- what occurs in `extra`, number by number
pub total-occurs : (l extra : List ℕ) → ((k : ℕ) → occurs k l ≤ 1) → total (λ k. occurs k extra) l ≤ length extra
total-occurs l [] once = let z = zeros l in omega arith
  where
    zeros : (r : List ℕ) → total (λ (k : ℕ). 0) r ≡ 0
    zeros [] = refl
    zeros (x ∷ r) = let h = zeros r in omega arith
total-occurs l (x ∷ extra) once = let a = once x in let b = total-occurs l extra once in let d = parts l in omega arith
  where
    parts : (r : List ℕ) → total (λ k. same k x + occurs k extra) r ≡ occurs x r + total (λ k. occurs k extra) r
    parts [] = refl
    parts (y ∷ r) = let h = parts r in let g = same_symmetric y x in omega arith

-- each term is at most a constant and a weight
pub total-most : (f g : ℕ → ℕ) (most : ℕ) (l : List ℕ) → ((i : ℕ) → i < length l → f (get_or l i 0) ≤ most + g (get_or l i 0))
    → total f l ≤ most * length l + total g l
total-most f g most [] h = omega arith
total-most f g most (x ∷ l) h =
    let a = h zero (omega arith) in
    let b = total-most f g most l (λ i n. h (suc i) (omega arith)) in
    let d : most * length (x ∷ l) ≡ most * length l + most = mul-suc most (length l) in
    omega arith
