-- A mailbox: the test of a mask, the look through the words, and the shift that takes one out.
use Rattle.std.proofs.Common.{◌≡◌, ℕ, zero, suc, ◌+◌, ◌-◌, ◌/◌, ◌^◌, ◌<◌, ◌≤◌, Bool, true, false, eqb, List, [], ◌∷◌, length, get_or, set, sym, refl, ap, ◌∙◌, lt_of_lt_of_le, le_of_suc-le-suc, not-suc-le-zero, arith, length-set, get_or-set_other, get_or-set_same, pow_mono}
use native.Mathlib.Nat.{div-eq_of_lt}
use lib.Bits.{bit_and, and_mask}
use Rattle.facts.specs.Tests.{by_eq}
use Rattle.facts.specs.Lists.{remove_at}
use Rattle.facts.specs.Rings.{listed-length, get_or_listed, listed-remove_at}
use Rattle.backup.specs.Limits.{log_most}
use Rattle.rules.specs.Machine.{Mail, nothing, found, pull, bit}
use Rattle.process.specs.Row.{place_in, mail_in, packed_at, mails_in}
use Rattle.instruction.specs.Mailbox.{Looks, Removed}

-- ---- a mask

pub in_mask : (mask k : ℕ) → eqb (bit_and (mask / 2 ^ k) 1) 1 ≡ bit mask k
in_mask mask k = ap (λ (n : ℕ). eqb n 1) (and_mask (mask / 2 ^ k) 1)

-- a mask of 32 bits has no bit past them
pub past_mask : (mask k : ℕ) → mask < 2 ^ 32 → 32 ≤ k → false ≡ bit mask k
past_mask mask k h l = rw (div-eq_of_lt {n = mask} {m = 2 ^ k} (lt_of_lt_of_le h (pow_mono l)))

-- ---- the words as a list

mails-length : (first n : ℕ) (mail : List ℕ) → length (mails_in first n mail) ≡ n
mails-length first n mail = listed-length (λ i. mail_in (packed_at first mail i)) n

mail_at_lem : (first n : ℕ) (mail : List ℕ) (i : ℕ) → i < n → get_or (mails_in first n mail) i (mail_in 0) ≡ mail_in (packed_at first mail i)
mail_at_lem first n mail i h = get_or_listed (λ j. mail_in (packed_at first mail j)) n i (mail_in 0) h

-- ---- the look for the oldest

module _ (f : ℕ → Bool) (d : Mail) where
  pull-found : (l : List Mail) (r : ℕ) → r < length l → ((k : ℕ) → k < r → f (get_or l k d).channel ≡ false)
      → f (get_or l r d).channel ≡ true → pull f l ≡ found (get_or l r d) (remove_at r l)
  pull-found [] r h n y = absurd (not-suc-le-zero h)
  pull-found (x ∷ l) zero h n y = rw y
  pull-found (x ∷ l) (suc r) h n y =
      rw (n zero (omega arith), pull-found l r (le_of_suc-le-suc h) (λ k s. n (suc k) (omega arith)) y)

  pull-nothing : (l : List Mail) → ((k : ℕ) → k < length l → f (get_or l k d).channel ≡ false) → pull f l ≡ nothing
  pull-nothing [] n = refl
  pull-nothing (x ∷ l) n = rw (n zero (omega arith), pull-nothing l (λ k s. n (suc k) (omega arith)))

-- i of n words have been looked at: none is on a channel that passes
pub record Looking (f : ℕ → Bool) (mail : List ℕ) (first n i : ℕ) : Type 0 where
  pub looked : i ≤ n
  pub passed : (k : ℕ) → k < i → f (mail_in (packed_at first mail k)).channel ≡ false

module _ (f : ℕ → Bool) (mail : List ℕ) (first n : ℕ) where
  pub looking_start : Looking f mail first n 0
  looking_start = record { looked = omega arith; passed = λ k l. absurd (not-suc-le-zero l) }

  pub looking_on : (i : ℕ) → Looking f mail first n i → i < n → f (mail_in (packed_at first mail i)).channel ≡ false → Looking f mail first n (i + 1)
  looking_on i p h e = record {
    looked = omega arith;
    passed = λ k l. by_eq k i (λ s. rw s e) (λ s. p.passed k (omega arith));
  }

  module _ (i : ℕ) (p : Looking f mail first n i) where
    before_it : (k : ℕ) → k < i → f (get_or (mails_in first n mail) k (mail_in 0)).channel ≡ false
    before_it k l = let q = p.looked in rw (mail_at_lem first n mail k (omega arith)) (p.passed k l)

    pub look_found : i < n → f (mail_in (packed_at first mail i)).channel ≡ true → Looks f mail first n i
    look_found h e = record {
      finds = λ l.
          rw (← mail_at_lem first n mail i h)
          (pull-found f (mail_in 0) (mails_in first n mail) i (rw (mails-length first n mail) h) before_it (rw (mail_at_lem first n mail i h) e));
      misses = λ l. absurd (omega arith);
    }

    pub look_missed : n ≤ i → Looks f mail first n n
    look_missed h = record {
      finds = λ l. absurd (omega arith);
      misses = λ l. pull-nothing f (mail_in 0) (mails_in first n mail) (λ k z. before_it k (let y = mails-length first n mail in omega arith));
    }

-- ---- a word taken out

-- the words from position i + 1 to `at` are those that stood one before, the others stand where they stood
pub record Shifting (mail₀ : List ℕ) (first at : ℕ) (mail : List ℕ) (i : ℕ) : Type 0 where
  pub looked : i ≤ at
  pub same_length : length mail ≡ length mail₀
  pub moved : length mail₀ ≡ log_most → (k : ℕ) → i ≤ k → k < at → packed_at first mail (suc k) ≡ packed_at first mail₀ k
  pub front : (k : ℕ) → k ≤ i → packed_at first mail k ≡ packed_at first mail₀ k
  pub back : (k : ℕ) → at < k → k < log_most → packed_at first mail k ≡ packed_at first mail₀ k

module _ (mail₀ : List ℕ) (first at : ℕ) (small : at < log_most) where
  pub shifting_start : Shifting mail₀ first at mail₀ at
  shifting_start = record {
    looked = omega arith;
    same_length = refl;
    moved = λ l k a b. absurd (omega arith);
    front = λ k l. refl;
    back = λ k l m. refl;
  }

  module _ (mail : List ℕ) (i : ℕ) (p : Shifting mail₀ first at mail i) where
    pub shifting_on : 0 < i → Shifting mail₀ first at (set mail (place_in first i) (packed_at first mail (i - 1))) (i - 1)
    shifting_on h =
        let a = p.looked in
        let x = packed_at first mail (i - 1) in
        let o : (k : ℕ) → (place_in first k ≡ place_in first i → ⊥) → packed_at first (set mail (place_in first i) x) k ≡ packed_at first mail k =
        λ k n. get_or-set_other mail (place_in first i) (place_in first k) x 0 n in
        record {
          looked = omega arith;
          same_length = length-set mail (place_in first i) x ∙ p.same_length;
          moved = λ l k y z.
              by_eq k (i - 1)
              (λ e.
              let s : suc k ≡ i = omega arith in
              ap (packed_at first (set mail (place_in first i) x)) s
              ∙ get_or-set_same mail (place_in first i) x 0 (let q = p.same_length in omega arith)
              ∙ p.front (i - 1) (omega arith) ∙ ap (packed_at first mail₀) (sym e))
              (λ e. o (suc k) (λ f. omega arith) ∙ p.moved l k (omega arith) z);
          front = λ k l. o k (λ f. omega arith) ∙ p.front k (omega arith);
          back = λ k l m. o k (λ f. omega arith) ∙ p.back k l m;
        }

    -- counted from the next place on, a position is one less
    next_on : (k : ℕ) → packed_at (place_in first 1) mail k ≡ packed_at first mail (suc k)
    next_on k = let e : place_in (place_in first 1) k ≡ place_in first (suc k) = omega arith in ap (λ (j : ℕ). get_or mail j 0) e

    pub shifting_end : i ≤ 0 → Removed mail₀ first at mail
    shifting_end h = record {
      same_length = p.same_length;
      rest = λ l n s z.
          let e : suc (n - 1) ≡ n = omega arith in
          listed-remove_at (λ k. mail_in (packed_at first mail₀ k)) (λ k. mail_in (packed_at (place_in first 1) mail k)) (n - 1) at (omega arith)
          (λ k a. ap mail_in (next_on k ∙ p.moved l k (omega arith) a))
          (λ k a b. ap mail_in (next_on k ∙ p.back (suc k) (omega arith) (omega arith)))
          ∙ ap (λ (m : ℕ). remove_at at (mails_in first m mail₀)) e;
    }
