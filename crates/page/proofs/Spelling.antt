-- A number's digits, stored from the last to the first.
use mathlib.Core.Path.{◌≡◌, refl, ap, sym, ◌∙◌, subst}
use mathlib.Core.List.{List, [], ◌∷◌, ◌++◌, append_assoc, append-nil}
use Prim.Native.Nat.{ℕ, zero, suc, ◌+◌, ◌-◌, ◌*◌, ◌/◌, ◌%◌, ◌^◌, ◌≤◌, ◌<◌}
use native.Mathlib.Omega.{arith}
use lib.ListN.{length, set, drop, length-set, drop_of_length-le}
use lib.Seq.{drop-cons, drop-set-lt, get_or-set_same}
use borrow.Author.Tests.{lt-ltb, le-ltb}
use Rattle.rules.specs.Page.{digits, decimal}

-- what so many further digits and one can't hold
abbrev pub ceiling : ℕ → ℕ
ceiling zero = 10
ceiling (suc further) = 10 * ceiling further

-- behind index i stand the last digits, and what is left of the number has its digits up to there
pub record Spelling (n : ℕ) (text : List ℕ) (i rest : ℕ) : Type 0 where
  pub within : i < 20
  pub room : length text ≡ 20
  pub small : rest < ceiling i
  pub spelt : digits i rest ++ drop (suc i) text ≡ decimal n

pub spelling_start : (n : ℕ) (text : List ℕ) → length text ≡ 20 → n < 2 ^ 64 → Spelling n text 19 n
unfolding decimal
spelling_start n text e h = record {
  within = omega arith;
  room = e;
  small = let c : ceiling 19 ≡ 100000000000000000000 = refl in omega arith;
  spelt = ap (λ (l : List ℕ). digits 19 n ++ l) (drop_of_length-le text {i = 20} (omega arith)) ∙ append-nil (digits 19 n);
}

-- a digit stored before those that stand
stored : (text : List ℕ) (i d : ℕ) → i < length text → drop i (set text i d) ≡ d ∷ drop (suc i) text
stored text i d h =
    let l = length-set text i d in
    drop-cons (set text i d) i 0 (omega arith)
    ∙ (λ j. get_or-set_same text i d 0 h j ∷ drop-set-lt (suc i) text i d (omega arith) j)

last-digit : (i rest : ℕ) → rest < 10 → digits i rest ≡ (48 + rest % 10) ∷ []
last-digit zero rest h = refl
last-digit (suc i) rest h =
    let e : 48 + rest ≡ 48 + rest % 10 = omega arith in
    rw (lt-ltb rest 10 h) (ap (λ (d : ℕ). d ∷ []) e)

one_digit : (f rest : ℕ) → 10 ≤ rest → digits (suc f) rest ≡ digits f (rest / 10) ++ ((48 + rest % 10) ∷ [])
one_digit f rest h = rw (le-ltb rest 10 h) refl

-- a digit is left, and room for it
pub spelling_first : (n : ℕ) (text : List ℕ) (i rest : ℕ) → Spelling n text i rest → 10 ≤ rest → 1 ≤ i
spelling_first n text zero rest s h = absurd (let k = s.small in omega arith)
spelling_first n text (suc f) rest s h = omega arith

pub spelling_on : (n : ℕ) (text : List ℕ) (i rest d : ℕ) → Spelling n text i rest → 10 ≤ rest → d ≡ 48 + rest % 10 → Spelling n (set text i d) (i - 1) (rest / 10)
spelling_on n text zero rest d s h e = absurd (let k = s.small in omega arith)
spelling_on n text (suc f) rest d s h e =
    let w = s.within in
    let l = s.room in
    let e1 : f ≡ suc f - 1 = omega arith in
    subst (λ (k : ℕ). Spelling n (set text (suc f) d) k (rest / 10)) e1
    (record {
      within = omega arith;
      room = length-set text (suc f) d ∙ l;
      small = let k = s.small in omega arith;
      spelt =
          ap (λ (x : List ℕ). digits f (rest / 10) ++ x) (stored text (suc f) d (omega arith) ∙ ap (λ (x : ℕ). x ∷ drop (suc (suc f)) text) e)
          ∙ sym (append_assoc (digits f (rest / 10)) ((48 + rest % 10) ∷ []) (drop (suc (suc f)) text))
          ∙ ap (λ (x : List ℕ). x ++ drop (suc (suc f)) text) (sym (one_digit f rest h))
          ∙ s.spelt;
    })

pub spelling_end : (n : ℕ) (text : List ℕ) (i rest d : ℕ) → Spelling n text i rest → rest < 10 → d ≡ 48 + rest % 10
    → (drop i (set text i d) ≡ decimal n) × (length (set text i d) ≡ 20)
spelling_end n text i rest d s h e =
    let w = s.within in
    let l = s.room in (
      stored text i d (omega arith)
          ∙ ap (λ (x : ℕ). x ∷ drop (suc i) text) e
          ∙ ap (λ (x : List ℕ). x ++ drop (suc i) text) (sym (last-digit i rest h))
          ∙ s.spelt,
      length-set text i d ∙ l,
    )
