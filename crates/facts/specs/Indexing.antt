-- Elements by their index: of a mapped list, and of one whose elements all pass a test; and what two functions make of such a list.
use Rattle.std.specs.Prelude.{◌≡◌, refl, Bool, true, List, [], ◌∷◌, map, ℕ, zero, suc, ◌<◌, length, get_or, replicate}
use Rattle.std.proofs.Common.{le_of_suc-le-suc, not-suc-le-zero}
use Rattle.facts.specs.Tests.{and_left, and_right, all_of}

pub get_or_map : {A B : Type 0} (f : A → B) (l : List A) (j : ℕ) (d : A) (e : B) → j < length l → get_or (map f l) j e ≡ f (get_or l j d)
get_or_map f [] j d e h = absurd (not-suc-le-zero h)
get_or_map f (x ∷ l) zero d e h = refl
get_or_map f (x ∷ l) (suc j) d e h = get_or_map f l j d e (le_of_suc-le-suc h)

-- a list of one value has it at every index, where it also stands for what lies past the end
pub get_or_replicate_any : {A : Type 0} (n j : ℕ) (a : A) → get_or (replicate n a) j a ≡ a
get_or_replicate_any zero j a = refl
get_or_replicate_any (suc n) zero a = refl
get_or_replicate_any (suc n) (suc j) a = get_or_replicate_any n j a

pub all_of_lem : {A : Type 0} (f : A → Bool) (l : List A) → all_of f l ≡ true → (j : ℕ) (d : A) → j < length l → f (get_or l j d) ≡ true
all_of_lem f [] h j d l = absurd (not-suc-le-zero l)
all_of_lem f (x ∷ xs) h zero d l = and_left (f x) (all_of f xs) h
all_of_lem f (x ∷ xs) h (suc j) d l = all_of_lem f xs (and_right (f x) (all_of f xs) h) j d (le_of_suc-le-suc l)

-- two functions that agree on what passes a test, on a list of which every element does
pub map_agree : {A B : Type 0} (test : A → Bool) (f g : A → B) → ((x : A) → test x ≡ true → f x ≡ g x) → (l : List A) → all_of test l ≡ true
    → map f l ≡ map g l
map_agree test f g h [] k = refl
map_agree test f g h (x ∷ l) k = λ i. h x (and_left (test x) (all_of test l) k) i ∷ map_agree test f g h l (and_right (test x) (all_of test l) k) i
