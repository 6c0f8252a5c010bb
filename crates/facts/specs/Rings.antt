-- Lists given by a function of the place, and rings of 32 in a flat list: an entry joins at the end, the oldest leaves.
use Rattle.std.specs.Prelude.{◌≡◌, refl, ◌≢◌, List, [], ◌∷◌, ◌++◌, ℕ, zero, suc, ◌+◌, ◌*◌, ◌%◌, ◌≤◌, ◌<◌, length, set}
use Rattle.std.proofs.Common.{ap, ◌∙◌, arith, not-suc-le-zero, le_of_suc-le-suc, get_or-set_same}
use Rattle.std.proofs.Math.ListN.{get_or}
use Rattle.std.proofs.Math.Seq.{get_or-set_other}
use Rattle.facts.specs.Lists.{listed, listed_same, remove_at}

-- ---- listed

pub listed-length : {A : Type 0} (f : ℕ → A) (n : ℕ) → length (listed f n) ≡ n
listed-length f zero = refl
listed-length f (suc n) = ap suc (listed-length (λ i. f (suc i)) n)

pub get_or_listed : {A : Type 0} (f : ℕ → A) (n i : ℕ) (d : A) → i < n → get_or (listed f n) i d ≡ f i
get_or_listed f zero i d h = absurd (not-suc-le-zero h)
get_or_listed f (suc n) zero d h = refl
get_or_listed f (suc n) (suc i) d h = get_or_listed (λ k. f (suc k)) n i d (le_of_suc-le-suc h)

pub listed_more : {A : Type 0} (f : ℕ → A) (n : ℕ) → listed f (suc n) ≡ listed f n ++ (f n ∷ [])
listed_more f zero = refl
listed_more {A} f (suc n) = ap (λ (l : List A). f zero ∷ l) (listed_more (λ i. f (suc i)) n)

-- one more at the end, the others as they were
pub listed_push : {A : Type 0} (f g : ℕ → A) (n : ℕ) (x : A) → ((i : ℕ) → i < n → g i ≡ f i) → g n ≡ x
    → listed g (suc n) ≡ listed f n ++ (x ∷ [])
listed_push f g n x h e = listed_more g n ∙ (λ k. listed_same g f n h k ++ (e k ∷ []))

-- one left out, those behind it a place earlier
pub listed-remove_at : {A : Type 0} (f g : ℕ → A) (n at : ℕ) → at ≤ n → ((i : ℕ) → i < at → g i ≡ f i)
    → ((i : ℕ) → at ≤ i → i < n → g i ≡ f (suc i)) → listed g n ≡ remove_at at (listed f (suc n))
listed-remove_at f g n zero h a b = listed_same g (λ i. f (suc i)) n (λ i l. b i (omega arith) l)
listed-remove_at f g zero (suc at) h a b = absurd (not-suc-le-zero h)
listed-remove_at f g (suc n) (suc at) h a b =
    λ k. a zero (omega arith) k ∷ listed-remove_at (λ i. f (suc i)) (λ i. g (suc i)) n at (le_of_suc-le-suc h)
    (λ i l. a (suc i) (omega arith)) (λ i l m. b (suc i) (omega arith) (omega arith)) k

-- one place differs: a store there
pub listed-set : {A : Type 0} (f g : ℕ → A) (n k : ℕ) → ((i : ℕ) → i < n → i ≢ k → g i ≡ f i) → listed g n ≡ set (listed f n) k (g k)
listed-set f g zero k h = refl
listed-set {A} f g (suc n) zero h =
    ap (λ (l : List A). g zero ∷ l) (listed_same (λ i. g (suc i)) (λ i. f (suc i)) n (λ i l. h (suc i) (omega arith) (λ e. omega arith)))
listed-set {A} f g (suc n) (suc k) h =
    ap (λ (x : A). x ∷ listed (λ i. g (suc i)) n) (h zero (omega arith) (λ e. omega arith))
    ∙ ap (λ (l : List A). f zero ∷ l) (listed-set (λ i. f (suc i)) (λ i. g (suc i)) n k
    (λ i l e. h (suc i) (omega arith) (λ z. e (omega arith))))

-- ---- rings

-- the count entries of ring b from its first on, oldest first
unfoldable pub ring : {A : Type 0} → A → List A → ℕ → ℕ → ℕ → List A
ring d entries b first count = listed (λ i. get_or entries (32 * b + (first + i) % 32) d) count

module _ {A : Type 0} (d : A) (entries : List A) (b first count : ℕ) (x : A) (few : count < 32) (room : 32 * b + 32 ≤ length entries) where
  -- an entry joins its ring
  pub ring_push : ring d (set entries (32 * b + (first + count) % 32) x) b first (suc count) ≡ ring d entries b first count ++ (x ∷ [])
  unfolding ring
  ring_push =
      let at = 32 * b + (first + count) % 32 in
      listed_push (λ i. get_or entries (32 * b + (first + i) % 32) d) (λ i. get_or (set entries at x) (32 * b + (first + i) % 32) d) count x
      (λ i l. get_or-set_other entries at (32 * b + (first + i) % 32) x d (λ e. omega arith)) (get_or-set_same entries at x d (omega arith))

  -- and no other
  pub ring-apart : (b' first' count' : ℕ) → b' ≢ b
      → ring d (set entries (32 * b + (first + count) % 32) x) b' first' count' ≡ ring d entries b' first' count'
  unfolding ring
  ring-apart b' first' count' n =
      listed_same (λ i. get_or (set entries (32 * b + (first + count) % 32) x) (32 * b' + (first' + i) % 32) d)
      (λ i. get_or entries (32 * b' + (first' + i) % 32) d) count'
      (λ i l. get_or-set_other entries (32 * b + (first + count) % 32) (32 * b' + (first' + i) % 32) x d (λ e. n (omega arith)))

-- the oldest leaves
pub ring_pop : {A : Type 0} (d : A) (entries : List A) (b first count : ℕ)
    → ring d entries b first (suc count) ≡ get_or entries (32 * b + first % 32) d ∷ ring d entries b ((first + 1) % 32) count
unfolding ring
ring_pop {A} d entries b first count =
    let e : (first + 0) % 32 ≡ first % 32 = omega arith in
    ap (λ (k : ℕ). get_or entries (32 * b + k) d ∷ listed (λ i. get_or entries (32 * b + (first + suc i) % 32) d) count) e
    ∙ ap (λ (l : List A). get_or entries (32 * b + first % 32) d ∷ l)
    (listed_same (λ i. get_or entries (32 * b + (first + suc i) % 32) d) (λ i. get_or entries (32 * b + ((first + 1) % 32 + i) % 32) d) count
    (λ i l. let f : (first + suc i) % 32 ≡ ((first + 1) % 32 + i) % 32 = omega arith in ap (λ (k : ℕ). get_or entries (32 * b + k) d) f))
