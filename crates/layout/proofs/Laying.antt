-- Numbers laid one behind the other: from a list, and of each of n things in turn, so many numbers a thing.
use mathlib.Core.Path.{◌≡◌, refl, ap, sym, ◌∙◌}
use mathlib.Core.List.{List, ◌++◌, append_assoc}
use Prim.Native.Nat.{ℕ, zero, suc, ◌+◌, ◌*◌, ◌≤◌, ◌<◌}
use native.Mathlib.Omega.{arith}
use native.Mathlib.Numerals.{add-one}
use lib.ListN.{length, take, drop, length-append}
use lib.Seq.{sets, sets-eq, length-sets, drop-drop}
use Rattle.facts.specs.Laying.{sets_more}
use Rattle.layout.specs.View.{each}

-- ---- a list

-- what was copied to a part of a list, in that part's place, is a store of it
pub laid : (l src part : List ℕ) (at k : ℕ) → at + length src ≤ length l → k ≡ length src → part ≡ src
    → take at l ++ (part ++ drop k (drop at l)) ≡ sets l at src
laid l src part at k h m e =
    (λ i. take at l ++ (e i ++ drop (m i) (drop at l))) ∙ ap (λ (rest : List ℕ). take at l ++ (src ++ rest)) (drop-drop (length src) at l)
    ∙ sym (append_assoc (take at l) src (drop (at + length src) l)) ∙ sym (sets-eq src l at h)

-- ---- of each of n things

pub each-length : (f : ℕ → List ℕ) (w n : ℕ) → ((i : ℕ) → length (f i) ≡ w) → length (each f n) ≡ w * n
unfolding each
each-length f w zero h = omega arith
each-length f w (suc n) h =
    let a = length-append (each f n) (f n) in
    let b = each-length f w n h in
    let c = h n in
    omega arith

pub each_more : (f : ℕ → List ℕ) (n : ℕ) → each f (suc n) ≡ each f n ++ f n
unfolding each
each_more f n = refl

pub each_same : (f g : ℕ → List ℕ) (n : ℕ) → ((i : ℕ) → i < n → f i ≡ g i) → each f n ≡ each g n
unfolding each
each_same f g zero h = refl
each_same f g (suc n) h = λ k. each_same f g n (λ i l. h i (omega arith)) k ++ h n (omega arith) k

-- the numbers of the first i of n things are laid, w numbers a thing
pub record EachLaid (f : ℕ → List ℕ) (w n : ℕ) (out₀ : List ℕ) (at : ℕ) (out : List ℕ) (i : ℕ) : Type 0 where
  pub within : i ≤ n
  pub same_length : length out ≡ length out₀
  pub laid : out ≡ sets out₀ at (each f i)

module _ {f : ℕ → List ℕ} {w n : ℕ} {out₀ : List ℕ} {at : ℕ} where
  pub each_start : EachLaid f w n out₀ at out₀ 0
  unfolding each
  each_start = record { within = omega arith; same_length = refl; laid = refl }

  pub each_on : {out out' numbers : List ℕ} {i k : ℕ} → ((j : ℕ) → length (f j) ≡ w) → EachLaid f w n out₀ at out i → i < n → k ≡ at + w * i
      → numbers ≡ f i → out' ≡ sets out k numbers → EachLaid f w n out₀ at out' (i + 1)
  each_on {out} {out'} {numbers} {i} {k} wide h l e g put =
      let all : out' ≡ sets out₀ at (each f (i + 1)) =
      put
      ∙ (λ j. sets (h.laid j) k (g j))
      ∙ sets_more (each f i) (f i) out₀ at k (let x = each-length f w i wide in omega arith)
      ∙ ap (λ (x : List ℕ). sets out₀ at x) (sym (each_more f i) ∙ ap (λ (m : ℕ). each f m) (sym (add-one i))) in
      record {
        within = omega arith;
        same_length = ap (λ (x : List ℕ). length x) all ∙ length-sets out₀ at (each f (i + 1));
        laid = all;
      }

  pub each-end : {out : List ℕ} {i : ℕ} → EachLaid f w n out₀ at out i → n ≤ i → out ≡ sets out₀ at (each f n)
  each-end h l = let x = h.within in h.laid ∙ ap (λ (m : ℕ). sets out₀ at (each f m)) (omega arith)
