-- Texts put one behind the other.
use mathlib.Core.Path.{◌≡◌, refl, ap, sym, ◌∙◌, subst}
use mathlib.Core.List.{List, [], ◌∷◌, ◌++◌, append_assoc}
use Prim.Native.Nat.{ℕ, suc, ◌+◌, ◌^◌, ◌≤◌, ◌<◌}
use native.Mathlib.Omega.{arith}
use lib.ListN.{length, get_or, set, drop, length-append, length-set, drop_of_length-le}
use lib.Seq.{sets, drop-cons}
use Rattle.facts.specs.Tests.{by_lt}
use Rattle.rules.specs.Page.{decimal, spaced, line}
use Rattle.page.specs.Put.{most, Put}

-- ---- one byte

-- at the largest position nothing is put
pub put_none : (byte : ℕ) (out : List ℕ) (at : ℕ) → at < 2 ^ 64 → most ≤ at → Put (byte ∷ []) out at at out
put_none byte out at f l = record {
  behind = λ h. absurd (omega arith);
  beyond = λ h. omega arith;
  stored = λ h k. absurd (omega arith);
  same_length = refl;
}

pub put_past : (byte : ℕ) (out : List ℕ) (at : ℕ) → at < most → length out ≤ at → Put (byte ∷ []) out at (at + 1) out
put_past byte out at l h = record {
  behind = λ k. refl;
  beyond = λ k. omega arith;
  stored = λ k j. absurd (omega arith);
  same_length = refl;
}

pub put_one : (byte : ℕ) (out : List ℕ) (at : ℕ) → at < most → Put (byte ∷ []) out at (at + 1) (set out at byte)
put_one byte out at l = record {
  behind = λ k. refl;
  beyond = λ k. omega arith;
  stored = λ k j. refl;
  same_length = length-set out at byte;
}

-- ---- nothing, and one text behind the other

pub put_nil : (out : List ℕ) (at : ℕ) → at ≤ most → Put [] out at at out
put_nil out at l = record { behind = λ h. omega arith; beyond = λ h. omega arith; stored = λ h k. refl; same_length = refl }

sets_append : (out : List ℕ) (at : ℕ) (a b : List ℕ) → sets out at (a ++ b) ≡ sets (sets out at a) (at + length a) b
sets_append out at [] b = ap (λ (k : ℕ). sets out k b) (omega arith)
sets_append out at (x ∷ a) b =
    let e : suc at + length a ≡ at + suc (length a) = omega arith in
    sets_append (set out at x) (suc at) a b ∙ ap (λ (k : ℕ). sets (sets (set out at x) (suc at) a) k b) e

pub put_then : (a b out o1 o2 : List ℕ) (at r1 r2 : ℕ) → Put a out at r1 o1 → Put b o1 r1 r2 o2 → Put (a ++ b) out at r2 o2
put_then a b out o1 o2 at r1 r2 p q =
    let l = length-append a b in
    record {
      behind = λ h. let e = p.behind (omega arith) in let f = q.behind (omega arith) in omega arith;
      beyond = λ h.
          by_lt (at + length a) most
          (λ k. let e = p.behind (omega arith) in q.beyond (omega arith))
          (λ k. let e = p.beyond k in q.beyond (omega arith));
      stored = λ h k.
          let e = p.behind (omega arith) in
          let s = p.same_length in
          q.stored (omega arith) (omega arith)
          ∙ (λ j. sets (p.stored (omega arith) (omega arith) j) (e j) b)
          ∙ sym (sets_append out at a b);
      same_length = q.same_length ∙ p.same_length;
    }

pub put_as : (a b out o : List ℕ) (at r : ℕ) → a ≡ b → Put a out at r o → Put b out at r o
put_as a b out o at r e p = subst (λ (x : List ℕ). Put x out at r o) e p

-- ---- a loop that puts a whole text, part by part: what is put when the rest is put behind

pub record Going (whole out₀ : List ℕ) (at₀ : ℕ) (rest out : List ℕ) (at : ℕ) : Type 0 where
  pub small : at ≤ most
  pub same_length : length out ≡ length out₀
  pub goes : (r : ℕ) (o : List ℕ) → Put rest out at r o → Put whole out₀ at₀ r o

pub going_start : (whole out : List ℕ) (at : ℕ) → at ≤ most → Going whole out at whole out at
going_start whole out at l = record { small = l; same_length = refl; goes = λ r o p. p }

pub put_small : (a out o : List ℕ) (at r : ℕ) → Put a out at r o → r ≤ most
put_small a out o at r p =
    by_lt (at + length a) most (λ k. let e = p.behind (omega arith) in omega arith) (λ k. let e = p.beyond k in omega arith)

pub going_on : (whole out₀ : List ℕ) (at₀ : ℕ) (part rest rest' out o1 : List ℕ) (at r1 : ℕ) → Going whole out₀ at₀ rest out at → rest ≡ part ++ rest'
    → Put part out at r1 o1 → Going whole out₀ at₀ rest' o1 r1
going_on whole out₀ at₀ part rest rest' out o1 at r1 g e p = record {
  small = put_small part out o1 at r1 p;
  same_length = p.same_length ∙ g.same_length;
  goes = λ r o q. g.goes r o (put_as (part ++ rest') rest out o at r (sym e) (put_then part rest' out o1 o at r1 r p q));
}

pub going_end : (whole out₀ : List ℕ) (at₀ : ℕ) (rest out : List ℕ) (at : ℕ) → Going whole out₀ at₀ rest out at → rest ≡ [] → Put whole out₀ at₀ at out
going_end whole out₀ at₀ rest out at g e = g.goes at out (put_as [] rest out out at at (sym e) (put_nil out at g.small))

-- of a text's bytes
pub text_on : (text out₀ out o1 : List ℕ) (from at₀ at i r1 : ℕ) → Going (drop from text) out₀ at₀ (drop i text) out at → i < length text
    → Put (get_or text i 0 ∷ []) out at r1 o1 → Going (drop from text) out₀ at₀ (drop (i + 1) text) o1 r1
text_on text out₀ out o1 from at₀ at i r1 g l p =
    let e : suc i ≡ i + 1 = omega arith in
    going_on _ _ _ (get_or text i 0 ∷ []) (drop i text) (drop (i + 1) text) out o1 at r1 g
    (drop-cons text i 0 l ∙ ap (λ (k : ℕ). get_or text i 0 ∷ drop k text) e) p

pub text_end : (text out₀ out : List ℕ) (from at₀ at i : ℕ) → Going (drop from text) out₀ at₀ (drop i text) out at → length text ≤ i → Put (drop from text) out₀ at₀ at out
text_end text out₀ out from at₀ at i g l = going_end _ _ _ (drop i text) out at g (drop_of_length-le text l)

-- a number, and the byte behind it
pub number_put : (text out o1 o2 : List ℕ) (from at r1 r2 n after : ℕ) → drop from text ≡ decimal n → Put (drop from text) out at r1 o1 → Put (after ∷ []) o1 r1 r2 o2
    → Put (decimal n ++ (after ∷ [])) out at r2 o2
number_put text out o1 o2 from at r1 r2 n after e p q =
    put_as _ _ out o2 at r2 (ap (λ (x : List ℕ). x ++ (after ∷ [])) e) (put_then (drop from text) (after ∷ []) out o1 o2 at r1 r2 p q)

-- ---- a line, word by word

pub line-more : (word next : List ℕ) (words : List (List ℕ)) → (word ++ (32 ∷ [])) ++ line (next ∷ words) ≡ line (word ∷ next ∷ words)
line-more word next words =
    append_assoc word (32 ∷ []) (line (next ∷ words)) ∙ sym (append_assoc word (32 ∷ spaced (next ∷ words)) (10 ∷ []))

pub line_then : (word next : List ℕ) (words : List (List ℕ)) (out o1 o2 : List ℕ) (at r1 r2 : ℕ) → Put (word ++ (32 ∷ [])) out at r1 o1
    → Put (line (next ∷ words)) o1 r1 r2 o2 → Put (line (word ∷ next ∷ words)) out at r2 o2
line_then word next words out o1 o2 at r1 r2 p q = put_as _ _ out o2 at r2 (line-more word next words) (put_then _ _ out o1 o2 at r1 r2 p q)
