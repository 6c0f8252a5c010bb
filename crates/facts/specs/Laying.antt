-- Numbers stored one behind the other: what stands in a list while more of them are still to come.
use Rattle.std.specs.Prelude.{◌≡◌, refl, List, [], ◌∷◌, ◌++◌, ℕ, suc, ◌+◌, ◌-◌, ◌≤◌, ◌<◌, length, drop, set}
use Rattle.std.proofs.Common.{ap, sym, ◌∙◌, arith, length-append}
use Rattle.std.proofs.lemmas.List.Edits.{sets, sets-eq}
use Rattle.std.proofs.Math.Seq.{length-sets}

-- one of n is done
pub one_fewer : (n p : ℕ) → p < n → n - p ≡ suc (n - (p + 1))
one_fewer n p h = omega arith

-- one store behind another is one store of both
pub sets_append : (l : List ℕ) (i : ℕ) (a b : List ℕ) → sets (sets l i a) (i + length a) b ≡ sets l i (a ++ b)
sets_append l i [] b = ap (λ (n : ℕ). sets l n b) (omega arith)
sets_append l i (x ∷ a) b =
    ap (λ (n : ℕ). sets (sets (set l i x) (suc i) a) n b) (omega arith) ∙ sets_append (set l i x) (suc i) a b

-- the same, where the second's place is said by itself
pub sets_more : (a b l : List ℕ) (n k : ℕ) → k ≡ n + length a → sets (sets l n a) k b ≡ sets l n (a ++ b)
sets_more a b l n k e = ap (λ (i : ℕ). sets (sets l n a) i b) e ∙ sets_append l n a b

-- at the front of a list: those numbers, then what stood behind them
pub sets-front : (l new : List ℕ) → length new ≤ length l → sets l 0 new ≡ new ++ drop (length new) l
sets-front l new h = let z : 0 + length new ≡ length new = omega arith in sets-eq new l 0 (omega arith) ∙ ap (λ (n : ℕ). new ++ drop n l) z

pub laid_length : (before after : List ℕ) (at : ℕ) (new : List ℕ) → after ≡ sets before at new → length after ≡ length before
laid_length before after at new e = ap length e ∙ length-sets before at new

-- `whole` is being stored from `from` on; what is left of it, `rest`, comes to `at`
pub record Laying (before : List ℕ) (from : ℕ) (whole after : List ℕ) (at : ℕ) (rest : List ℕ) : Type 0 where
  pub same_length : length after ≡ length before
  pub stored : sets after at rest ≡ sets before from whole
  pub room : at + length rest ≡ from + length whole

pub laying_start : (l : List ℕ) (at : ℕ) (whole : List ℕ) (at' : ℕ) (rest : List ℕ) → at' ≡ at → rest ≡ whole → Laying l at whole l at' rest
laying_start l at whole at' rest i e = record { same_length = refl; stored = λ j. sets l (i j) (e j); room = λ j. i j + length (e j) }

module _ {before : List ℕ} {from : ℕ} {whole after : List ℕ} {at : ℕ} where
  pub laying_more : {rest : List ℕ} (new rest' after' : List ℕ) (at' : ℕ) → Laying before from whole after at rest → rest ≡ new ++ rest'
      → after' ≡ sets after at new
      → at' ≡ at + length new → Laying before from whole after' at' rest'
  laying_more {rest} new rest' after' at' h e s i = record {
    same_length = ap length s ∙ length-sets after at new ∙ h.same_length;
    stored = (λ j. sets (s j) (i j) rest') ∙ sets_append after at new rest' ∙ ap (sets after at) (sym e) ∙ h.stored;
    room = let a = h.room in let b = ap length e in let c = length-append new rest' in omega arith;
  }

  pub laying_end : {rest : List ℕ} → Laying before from whole after at rest → rest ≡ [] → after ≡ sets before from whole
  laying_end h e = sym (ap (sets after at) e) ∙ h.stored

  -- so there is room for what is next
  pub laying_room : {rest : List ℕ} (new rest' : List ℕ) → Laying before from whole after at rest → rest ≡ new ++ rest'
      → from + length whole ≤ length before
      → at + length new ≤ length after
  laying_room new rest' h e r =
      let a = h.room in let b = ap length e in let c = length-append new rest' in let d = h.same_length in omega arith

-- three stores one behind the other are one store of three
pub three_put : (l : List ℕ) (n a b c x y z : ℕ) → x ≡ a → y ≡ b → z ≡ c → set (set (set l n x) (n + 1) y) (n + 2) z ≡ sets l n (a ∷ b ∷ c ∷ [])
three_put l n a b c x y z e0 e1 e2 =
    let i1 : n + 1 ≡ suc n = omega arith in
    let i2 : n + 2 ≡ suc (suc n) = omega arith in
    λ j. set (set (set l n (e0 j)) (i1 j) (e1 j)) (i2 j) (e2 j)
