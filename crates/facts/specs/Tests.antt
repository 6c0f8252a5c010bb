-- Tests over ranges and lists, as Booleans that compute, and what follows when they pass or fail.
use Rattle.std.specs.Prelude.{◌≡◌, refl, ◌≢◌, Bool, true, false, ◌&&◌, ◌||◌, List, [], ◌∷◌, ◌++◌, ℕ, zero, suc, ◌≤◌, ◌<◌, length, get_or}
use Rattle.std.proofs.Common.{arith, not-suc-le-zero, le_of_suc-le-suc}
use Rattle.std.proofs.Math.Decide.{dec_lt, ℕ_discrete}

-- the test holds of some number below n
abbrev pub any_below : (ℕ → Bool) → ℕ → Bool
any_below f zero = false
any_below f (suc n) = f n || any_below f n

-- the test holds of every number below n
abbrev pub all_below : (ℕ → Bool) → ℕ → Bool
all_below f zero = true
all_below f (suc n) = f n && all_below f n

-- the test holds of every element
abbrev pub all_of : {A : Type 0} → (A → Bool) → List A → Bool
all_of f [] = true
all_of f (x ∷ l) = f x && all_of f l

-- two equal numbers are not both 0 and 1
pub no_way : ◌≡◌ {A = ℕ} 0 1 → ⊥
no_way e = omega arith

pub and_left : (a b : Bool) → (a && b) ≡ true → a ≡ true
and_left true b h = refl
and_left false b h = h

pub and_right : (a b : Bool) → (a && b) ≡ true → b ≡ true
and_right true b h = h
and_right false b h = cc

pub and_both : (a b : Bool) → a ≡ true → b ≡ true → (a && b) ≡ true
and_both true b h k = k
and_both false b h k = h

pub or_left : (a b : Bool) → (a || b) ≡ false → a ≡ false
or_left true b h = h
or_left false b h = refl

pub or_right : (a b : Bool) → (a || b) ≡ false → b ≡ false
or_right true b h = cc
or_right false b h = h

-- a case split on two numbers, and on an order
pub by_eq : {P : Type 0} (a b : ℕ) → (a ≡ b → P) → (a ≢ b → P) → P
by_eq {P} a b f g = go (ℕ_discrete a b)
  where
    go : Dec (a ≡ b) → P
    go (yes e) = f e
    go (no n) = g n

pub by_lt : {P : Type 0} (a b : ℕ) → (a < b → P) → (b ≤ a → P) → P
by_lt {P} a b f g = go (dec_lt a b)
  where
    go : Dec (a < b) → P
    go (yes e) = f e
    go (no n) = g (omega arith)

pub all_below_lem : (f : ℕ → Bool) (n : ℕ) → all_below f n ≡ true → (j : ℕ) → j < n → f j ≡ true
all_below_lem f zero h j l = absurd (not-suc-le-zero l)
all_below_lem f (suc n) h j l =
    by_eq j n (λ e. rw e (and_left (f n) (all_below f n) h)) (λ k. all_below_lem f n (and_right (f n) (all_below f n) h) j (omega arith))

pub none_below : (f : ℕ → Bool) (n : ℕ) → any_below f n ≡ false → (j : ℕ) → j < n → f j ≡ false
none_below f zero h j l = absurd (not-suc-le-zero l)
none_below f (suc n) h j l =
    by_eq j n (λ e. rw e (or_left (f n) (any_below f n) h)) (λ k. none_below f n (or_right (f n) (any_below f n) h) j (omega arith))

pub no_such : (f : ℕ → Bool) (n : ℕ) → ((j : ℕ) → j < n → f j ≡ false) → any_below f n ≡ false
no_such f zero h = refl
no_such f (suc n) h = rw (h n (omega arith)) (no_such f n (λ j l. h j (omega arith)))

-- the test holds of every element of both parts
pub all_append : {A : Type 0} (f : A → Bool) (l r : List A) → all_of f l ≡ true → all_of f r ≡ true → all_of f (l ++ r) ≡ true
all_append f [] r h k = k
all_append f (x ∷ l) r h k = and_both (f x) (all_of f (l ++ r)) (and_left (f x) (all_of f l) h)
    (all_append f l r (and_right (f x) (all_of f l) h) k)

-- so it holds at each place
pub all_at : {A : Type 0} (f : A → Bool) (l : List A) (i : ℕ) (d : A) → all_of f l ≡ true → i < length l → f (get_or l i d) ≡ true
all_at f [] i d h k = absurd (not-suc-le-zero k)
all_at f (x ∷ l) zero d h k = and_left (f x) (all_of f l) h
all_at f (x ∷ l) (suc i) d h k = all_at f l i d (and_right (f x) (all_of f l) h) (le_of_suc-le-suc k)

-- two tests that agree below n
pub any_same : (f g : ℕ → Bool) (n : ℕ) → ((i : ℕ) → i < n → f i ≡ g i) → any_below f n ≡ any_below g n
any_same f g zero h = refl
any_same f g (suc n) h = rw (h n (omega arith), any_same f g n (λ i l. h i (omega arith)))
