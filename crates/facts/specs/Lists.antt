-- Lists: a prefix of a stated length, and what taking, storing and appending do to it.
use Rattle.std.specs.Prelude.{◌≡◌, refl, List, [], ◌∷◌, ◌++◌, map, ℕ, zero, suc, ◌+◌, ◌-◌, ◌≤◌, ◌<◌, length, take, drop, get_or, set}
use Rattle.std.proofs.Common.{ap, ◌∙◌, arith, le_of_suc-le-suc, not-suc-le-zero, length-drop, length-set, take_all, get_or-set_same, get_or-set_other}
use Rattle.facts.specs.Tests.{by_eq}

-- the first n numbers, 0 standing for each that lies past the end: n numbers in any case
abbrev pub prefix : ℕ → List ℕ → List ℕ
prefix zero l = []
prefix (suc n) [] = 0 ∷ prefix n []
prefix (suc n) (x ∷ l) = x ∷ prefix n l

pub length-prefix : (n : ℕ) (l : List ℕ) → length (prefix n l) ≡ n
length-prefix zero l = refl
length-prefix (suc n) [] = ap suc (length-prefix n [])
length-prefix (suc n) (x ∷ l) = ap suc (length-prefix n l)

-- within the list it is what `take` gives
pub prefix-take : (n : ℕ) (l : List ℕ) → n ≤ length l → prefix n l ≡ take n l
prefix-take zero l h = refl
prefix-take (suc n) [] h = absurd (not-suc-le-zero h)
prefix-take (suc n) (x ∷ l) h = ap (λ (r : List ℕ). x ∷ r) (prefix-take n l (le_of_suc-le-suc h))

-- a store at the end of a prefix makes it longer by one
pub prefix_push : (n : ℕ) (l : List ℕ) (x : ℕ) → n < length l → prefix (suc n) (set l n x) ≡ prefix n l ++ (x ∷ [])
prefix_push n [] x h = absurd (not-suc-le-zero h)
prefix_push zero (y ∷ l) x h = refl
prefix_push (suc n) (y ∷ l) x h = ap (λ (r : List ℕ). y ∷ r) (prefix_push n l x (le_of_suc-le-suc h))

-- one number more of the prefix, from the list
pub prefix-more : (n : ℕ) (l : List ℕ) → prefix (suc n) l ≡ prefix n l ++ (get_or l n 0 ∷ [])
prefix-more zero [] = refl
prefix-more zero (x ∷ l) = refl
prefix-more (suc n) [] = ap (λ (r : List ℕ). 0 ∷ r) (prefix-more n [])
prefix-more (suc n) (x ∷ l) = ap (λ (r : List ℕ). x ∷ r) (prefix-more n l)

-- f 0, f 1, .., n of them
abbrev pub listed : {A : Type 0} → (ℕ → A) → ℕ → List A
listed f zero = []
listed f (suc n) = f zero ∷ listed (λ i. f (suc i)) n

pub listed_same : {A : Type 0} (f g : ℕ → A) (n : ℕ) → ((i : ℕ) → i < n → f i ≡ g i) → listed f n ≡ listed g n
listed_same f g zero h = refl
listed_same f g (suc n) h =
    λ k. h zero (omega arith) k ∷ listed_same (λ i. f (suc i)) (λ i. g (suc i)) n (λ i l. h (suc i) (omega arith)) k

pub map-listed : {A B : Type 0} (f : A → B) (g : ℕ → A) (n : ℕ) → map f (listed g n) ≡ listed (λ i. f (g i)) n
map-listed f g zero = refl
map-listed f g (suc n) = ap (λ (r : List _). f (g zero) ∷ r) (map-listed f (λ i. g (suc i)) n)

pub prefix-listed : (n : ℕ) (l : List ℕ) → prefix n l ≡ listed (λ i. get_or l i 0) n
prefix-listed zero l = refl
prefix-listed (suc n) [] = ap (λ (r : List ℕ). 0 ∷ r) (prefix-listed n [])
prefix-listed (suc n) (x ∷ l) = ap (λ (r : List ℕ). x ∷ r) (prefix-listed n l)

-- a list of known length, written out by its elements
pub written_out : {A : Type 0} (l : List A) (n : ℕ) (d : A) → length l ≡ n → l ≡ listed (λ i. get_or l i d) n
written_out [] zero d h = refl
written_out [] (suc n) d h = absurd (omega arith)
written_out (x ∷ l) zero d h = absurd (omega arith)
written_out (x ∷ l) (suc n) d h = ap (λ (r : List _). x ∷ r) (written_out l n d (omega arith))

pub get_or_prefix : (n : ℕ) (l : List ℕ) (i : ℕ) → i < n → get_or (prefix n l) i 0 ≡ get_or l i 0
get_or_prefix zero l i h = absurd (not-suc-le-zero h)
get_or_prefix (suc n) [] zero h = refl
get_or_prefix (suc n) [] (suc i) h = get_or_prefix n [] i (le_of_suc-le-suc h)
get_or_prefix (suc n) (x ∷ l) zero h = refl
get_or_prefix (suc n) (x ∷ l) (suc i) h = get_or_prefix n l i (le_of_suc-le-suc h)

-- ---- a list with one place left out

abbrev pub remove_at : {A : Type 0} → ℕ → List A → List A
remove_at i [] = []
remove_at zero (x ∷ l) = l
remove_at (suc i) (x ∷ l) = x ∷ remove_at i l

-- a part that goes on to the list's end is all that follows its start
pub part-rest : {A : Type 0} (l : List A) (at : ℕ) → take (length l - at) (drop at l) ≡ drop at l
part-rest l at = take_all (length l - at) (drop at l) (let h = length-drop at l in omega arith)

-- ---- an array of so many numbers that is written from the front: its first n are those of f

pub record Filled (f : ℕ → ℕ) (size n : ℕ) (l : List ℕ) : Type 0 where
  pub long : length l ≡ size
  pub filled_at : (i : ℕ) → i < n → get_or l i 0 ≡ f i

pub filled_none : (f : ℕ → ℕ) (l : List ℕ) → Filled f (length l) 0 l
filled_none f l = record { long = refl; filled_at = λ i h. absurd (not-suc-le-zero h) }

pub filled_more : {f : ℕ → ℕ} {size n : ℕ} {l : List ℕ} → Filled f size n l → (x : ℕ) → n < size → x ≡ f n → Filled f size (n + 1) (set l n x)
filled_more {f} {size} {n} {l} h x k e = record {
  long = length-set l n x ∙ h.long;
  filled_at = λ i j.
      by_eq i n
      (λ g. rw g (get_or-set_same l n x 0 (let z = h.long in omega arith) ∙ e))
      (λ g. get_or-set_other l n i x 0 g ∙ h.filled_at i (omega arith));
}
