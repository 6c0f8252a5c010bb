-- A number's binary digits: how many are set, the lowest that is set and the number without it, and tests over the set ones.
use Rattle.std.specs.Prelude.{◌≡◌, refl, ◌≢◌, Bool, true, false, not, cond, ◌||◌, ℕ, zero, suc, ◌+◌, ◌-◌, ◌/◌, ◌%◌, ◌^◌, ◌≤◌, ◌<◌, eqb}
use Rattle.std.proofs.Common.{ap, sym, ◌∙◌, arith, div-one, pow-suc, add-one, one-add, shr_lt, shr-shr, pow_mono, eq-eqb, ne_eqb}
use Rattle.std.proofs.Math.Nat.{zero-div, div-eq_of_lt}
use Rattle.std.specs.Int.Count.{ones, ones_step, count_trailing_zeros, under}
use Rattle.facts.specs.Tests.{all_below, by_eq}
use Rattle.facts.specs.Ranges.{all_same, all_given, all_fails}
use Rattle.facts.specs.Counts.{cond_more}

-- digit k of n is set
abbrev pub digit : ℕ → ℕ → Bool
digit n k = eqb (n / 2 ^ k % 2) 1

digit-first : (n : ℕ) → digit n 0 ≡ eqb (n % 2) 1
digit-first n = rw (div-one n)

-- the digits above the lowest are those of half the number
digit_later : (n k : ℕ) → digit n (suc k) ≡ digit (n / 2) k
digit_later n k = ap (λ (x : ℕ). eqb (n / 2 ^ x % 2) 1) (sym (one-add k)) ∙ ap (λ (x : ℕ). eqb (x % 2) 1) (sym (shr-shr n 1 k))

half_below : (n d : ℕ) → n < 2 ^ suc d → n / 2 < 2 ^ d
half_below n d h = shr_lt d 1 (rw add-one h)

pub no_digit : (k : ℕ) → digit 0 k ≡ false
no_digit k = rw (zero-div (2 ^ k))

-- a number of d digits has none from d on
pub no_digit_above : (n d k : ℕ) → n < 2 ^ d → d ≤ k → digit n k ≡ false
no_digit_above n d k h l = let a = pow_mono l in rw (div-eq_of_lt {n = n} {m = 2 ^ k} (omega arith))

-- ---- how many are set

-- how many numbers below n pass
abbrev pub count_below : (ℕ → Bool) → ℕ → ℕ
count_below f zero = 0
count_below f (suc n) = cond (f n) (suc (count_below f n)) (count_below f n)

count_same : (f g : ℕ → Bool) (n : ℕ) → ((i : ℕ) → f i ≡ g i) → count_below f n ≡ count_below g n
count_same f g zero h = refl
count_same f g (suc n) h = rw (h n, count_same f g n h)

count-first : (f : ℕ → Bool) (n : ℕ) → count_below f (suc n) ≡ cond (f 0) 1 0 + count_below (λ i. f (suc i)) n
count-first f zero = omega arith
count-first f (suc n) =
    let a = count-first f n in
    let b = cond_more (f (suc n)) (count_below f (suc n)) in
    let c = cond_more (f (suc n)) (count_below (λ i. f (suc i)) n) in
    omega arith

one_digit : (r : ℕ) → r < 2 → cond (eqb r 1) 1 0 ≡ r
one_digit zero h = refl
one_digit (suc zero) h = refl
one_digit (suc (suc r)) h = absurd (omega arith)

-- counted as digits, and as the machine counts them
pub count_ones : (d n : ℕ) → n < 2 ^ d → count_below (digit n) d ≡ ones n
unfolding ones
count_ones zero n h = let z : n ≡ 0 = omega arith in rw z
count_ones (suc d) n h =
    let a = count-first (digit n) d in
    let b : cond (digit n 0) 1 0 ≡ n % 2 = rw (digit-first n) (one_digit (n % 2) (omega arith)) in
    let c = count_same (λ i. digit n (suc i)) (digit (n / 2)) d (digit_later n) in
    let e = count_ones d (n / 2) (half_below n d h) in
    let f = ones_step n in
    omega arith

-- ---- the lowest that is set

-- digit t of n is set, and n without it has the others
pub record Lowest (n t : ℕ) : Type 0 where
  pub is_set : digit n t ≡ true
  pub within : 2 ^ t ≤ n
  pub cleared : digit (n - 2 ^ t) t ≡ false
  pub others : (j : ℕ) → j ≢ t → digit (n - 2 ^ t) j ≡ digit n j

lowest_odd : (n : ℕ) → n % 2 ≡ 1 → Lowest n 0
lowest_odd n h = record {
  is_set = digit-first n ∙ eq-eqb (n % 2) 1 h;
  within = omega arith;
  cleared = digit-first (n - 1) ∙ ne_eqb ((n - 1) % 2) 1 (λ e. omega arith);
  others = others;
}
  where
    others : (j : ℕ) → j ≢ 0 → digit (n - 1) j ≡ digit n j
    others zero k = absurd (k refl)
    others (suc i) k = let e : (n - 1) / 2 ≡ n / 2 = omega arith in digit_later (n - 1) i ∙ ap (λ (x : ℕ). digit x i) e ∙ sym (digit_later n i)

lowest_even : (n t : ℕ) → n % 2 ≡ 0 → Lowest (n / 2) t → Lowest n (suc t)
lowest_even n t h l =
    let w = l.within in
    let e = pow-suc 2 t in
    let half : (n - 2 ^ suc t) / 2 ≡ n / 2 - 2 ^ t = omega arith in
    let even : (n - 2 ^ suc t) % 2 ≡ n % 2 = omega arith in
    record {
      is_set = digit_later n t ∙ l.is_set;
      within = omega arith;
      cleared = digit_later (n - 2 ^ suc t) t ∙ ap (λ (x : ℕ). digit x t) half ∙ l.cleared;
      others = others half even;
    }
  where
    others : (n - 2 ^ suc t) / 2 ≡ n / 2 - 2 ^ t → (n - 2 ^ suc t) % 2 ≡ n % 2 → (j : ℕ) → j ≢ suc t → digit (n - 2 ^ suc t) j ≡ digit n j
    others half even zero k = digit-first (n - 2 ^ suc t) ∙ ap (λ (x : ℕ). eqb x 1) even ∙ sym (digit-first n)
    others half even (suc i) k =
        digit_later (n - 2 ^ suc t) i ∙ ap (λ (x : ℕ). digit x i) half ∙ l.others i (λ e. k (ap suc e)) ∙ sym (digit_later n i)

-- the zeros below it are its place
pub lowest : (d n : ℕ) → 0 < n → n < 2 ^ d → (count_trailing_zeros d n < d) × Lowest n (count_trailing_zeros d n)
unfolding count_trailing_zeros
lowest zero n p h = absurd (omega arith)
lowest (suc d) n p h = go (n % 2) refl (λ q. lowest d (n / 2) q (half_below n d h))
  where
    go : (r : ℕ) → n % 2 ≡ r → (0 < n / 2 → (count_trailing_zeros d (n / 2) < d) × Lowest (n / 2) (count_trailing_zeros d (n / 2)))
        → (under r (count_trailing_zeros d (n / 2)) < suc d) × Lowest n (under r (count_trailing_zeros d (n / 2)))
    go zero e rest = let l = rest (omega arith) in let a = l.0 in (omega arith, lowest_even n (count_trailing_zeros d (n / 2)) e l.1)
    go (suc r) e rest = let a : n % 2 ≡ 1 = omega arith in (omega arith, lowest_odd n a)

-- ---- a test of every set digit, from the lowest on

-- every set digit of n, of d digits, passes
abbrev pub each_digit : (ℕ → Bool) → ℕ → ℕ → Bool
each_digit f d n = all_below (λ k. not (digit n k) || f k) d

pub each_none : (f : ℕ → Bool) (d : ℕ) → each_digit f d 0 ≡ true
each_none f d = all_given (λ k. not (digit 0 k) || f k) d (λ j l. rw (no_digit j))

pub each_fails : (f : ℕ → Bool) (d n t : ℕ) → t < d → Lowest n t → f t ≡ false → each_digit f d n ≡ false
each_fails f d n t l h e = all_fails (λ k. not (digit n k) || f k) d t l (rw (h.is_set, e))

pub each-passes : (f : ℕ → Bool) (d n t : ℕ) → Lowest n t → f t ≡ true → each_digit f d n ≡ each_digit f d (n - 2 ^ t)
each-passes f d n t h e =
    all_same (λ k. not (digit n k) || f k) (λ k. not (digit (n - 2 ^ t) k) || f k) d
    (λ j l. by_eq j t (λ m. rw (m, h.is_set, h.cleared, e)) (λ m. rw (h.others j m)))
