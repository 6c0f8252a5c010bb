-- Tests over a range, built up and compared: what fails one, when two agree, and a test over a list as one over its indices.
use Rattle.std.specs.Prelude.{◌≡◌, refl, Bool, true, false, ◌&&◌, List, [], ◌∷◌, ℕ, zero, suc, ◌<◌, length, get_or}
use Rattle.std.proofs.Common.{sym, arith, not-suc-le-zero}
use Rattle.facts.specs.Tests.{all_below, all_of, and_left, and_right, and_both, all_below_lem, by_eq}
use Rattle.facts.specs.Indexing.{all_of_lem}

-- two Booleans, each of which is true where the other is
pub both_ways : (a b : Bool) → (a ≡ true → b ≡ true) → (b ≡ true → a ≡ true) → a ≡ b
both_ways true b f g = sym (f refl)
both_ways false true f g = g refl
both_ways false false f g = refl

pub and_fails : (a b : Bool) → b ≡ false → (a && b) ≡ false
and_fails true b h = h
and_fails false b h = refl

-- every number passes
pub all_given : (f : ℕ → Bool) (n : ℕ) → ((j : ℕ) → j < n → f j ≡ true) → all_below f n ≡ true
all_given f zero h = refl
all_given f (suc n) h = and_both (f n) (all_below f n) (h n (omega arith)) (all_given f n (λ j l. h j (omega arith)))

-- one number fails
pub all_fails : (f : ℕ → Bool) (n j : ℕ) → j < n → f j ≡ false → all_below f n ≡ false
all_fails f zero j l h = absurd (not-suc-le-zero l)
all_fails f (suc n) j l h =
    by_eq j n
    (λ e. let z : f n ≡ false = rw (← e) h in rw z)
    (λ k. and_fails (f n) (all_below f n) (all_fails f n j (omega arith) h))

-- two tests that agree below n
pub all_same : (f g : ℕ → Bool) (n : ℕ) → ((i : ℕ) → i < n → f i ≡ g i) → all_below f n ≡ all_below g n
all_same f g zero h = refl
all_same f g (suc n) h = rw (h n (omega arith), all_same f g n (λ i l. h i (omega arith)))

-- two tests at once
pub all_and : (f g : ℕ → Bool) (n : ℕ) → all_below (λ k. f k && g k) n ≡ (all_below f n && all_below g n)
all_and f g n =
    both_ways (all_below (λ k. f k && g k) n) (all_below f n && all_below g n)
    (λ h. and_both (all_below f n) (all_below g n)
    (all_given f n (λ j l. and_left (f j) (g j) (all_below_lem (λ k. f k && g k) n h j l)))
    (all_given g n (λ j l. and_right (f j) (g j) (all_below_lem (λ k. f k && g k) n h j l))))
    (λ h. all_given (λ k. f k && g k) n
    (λ j l. and_both (f j) (g j) (all_below_lem f n (and_left (all_below f n) (all_below g n) h) j l)
    (all_below_lem g n (and_right (all_below f n) (all_below g n) h) j l)))

-- every element passes
pub all_of_given : {A : Type 0} (f : A → Bool) (l : List A) (d : A) → ((j : ℕ) → j < length l → f (get_or l j d) ≡ true) → all_of f l ≡ true
all_of_given f [] d h = refl
all_of_given f (x ∷ l) d h = and_both (f x) (all_of f l) (h zero (omega arith)) (all_of_given f l d (λ j k. h (suc j) (omega arith)))

-- a list's test by its indices
pub all_listed : {A : Type 0} (f : A → Bool) (l : List A) (d : A) → all_of f l ≡ all_below (λ i. f (get_or l i d)) (length l)
all_listed f l d =
    both_ways (all_of f l) (all_below (λ i. f (get_or l i d)) (length l))
    (λ h. all_given (λ i. f (get_or l i d)) (length l) (λ j k. all_of_lem f l h j d k))
    (λ h. all_of_given f l d (λ j k. all_below_lem (λ i. f (get_or l i d)) (length l) h j k))
