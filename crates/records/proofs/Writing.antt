-- Bytes stored where they belong: a word, two bytes and a word, and what a buffer holds that is written to from its front on.
use mathlib.Core.Path.{◌≡◌, refl, ap, sym, ◌∙◌, subst}
use mathlib.Core.List.{List, [], ◌∷◌, ◌++◌}
use Prim.Native.Nat.{ℕ, suc, ◌+◌, ◌/◌, ◌%◌, ◌^◌, ◌≤◌, ◌<◌}
use native.Mathlib.Omega.{arith}
use lib.ListN.{length, drop, set, length-append, length-drop}
use lib.Seq.{sets, sets-eq, set_comm, take-append_seam, drop-append-add, drop-drop}
use Rattle.rules.specs.Bytes.{word_bytes, written}

-- ---- at a place

-- four stores one behind the other are one store of four
pub four_put : (l : List ℕ) (n a b c d x y z w : ℕ) → x ≡ a → y ≡ b → z ≡ c → w ≡ d
    → set (set (set (set l n x) (n + 1) y) (n + 2) z) (n + 3) w ≡ sets l n (a ∷ b ∷ c ∷ d ∷ [])
four_put l n a b c d x y z w e0 e1 e2 e3 =
    let i1 : n + 1 ≡ suc n = omega arith in
    let i2 : n + 2 ≡ suc (suc n) = omega arith in
    let i3 : n + 3 ≡ suc (suc (suc n)) = omega arith in
    λ j. set (set (set (set l n (e0 j)) (i1 j) (e1 j)) (i2 j) (e2 j)) (i3 j) (e3 j)

pub word_put : (l : List ℕ) (n word x0 x1 x2 x3 : ℕ) → word < 2 ^ 32
    → x0 ≡ word / 16777216 % 256 → x1 ≡ word / 65536 % 256 → x2 ≡ word / 256 % 256 → x3 ≡ word % 256
    → set (set (set (set l n x0) (n + 1) x1) (n + 2) x2) (n + 3) x3 ≡ sets l n (word_bytes word)
word_put l n word x0 x1 x2 x3 w e0 e1 e2 e3 = four_put l n (word / 2 ^ 24) _ _ _ x0 x1 x2 x3 (omega arith) e1 e2 e3

-- a store in front of others may come behind them
store_before : (vs l : List ℕ) (i n x : ℕ) → i < n → set (sets l n vs) i x ≡ sets (set l i x) n vs
store_before [] l i n x h = refl
store_before (v ∷ vs) l i n x h =
    store_before vs (set l n v) i (suc n) x (omega arith)
    ∙ ap (λ (k : List ℕ). sets k (suc n) vs) (set_comm l n i v x (λ e. omega arith))

-- the word first, and then the two bytes before it
pub six_put : (l l' : List ℕ) (n first second word : ℕ) → l' ≡ sets l (n + 2) (word_bytes word)
    → set (set l' n first) (n + 1) second ≡ sets l n (first ∷ second ∷ word_bytes word)
six_put l l' n first second word e =
    let i1 : n + 1 ≡ suc n = omega arith in
    let i2 : n + 2 ≡ suc (suc n) = omega arith in
    (λ j. set (set (e j) n first) (i1 j) second)
    ∙ (λ j. set (set (sets l (i2 j) (word_bytes word)) n first) (suc n) second)
    ∙ ap (λ (k : List ℕ). set k (suc n) second) (store_before (word_bytes word) l n (suc (suc n)) first (omega arith))
    ∙ store_before (word_bytes word) (set l n first) (suc n) (suc (suc n)) second (omega arith)

-- ---- from the front on

-- a buffer with room is as long as it was
pub written-length : (new buffer : List ℕ) → length new ≤ length buffer → length (written new buffer) ≡ length buffer
written-length new buffer h =
    let a = length-append new (drop (length new) buffer) in
    let b = length-drop (length new) buffer in
    omega arith

-- what is stored behind what was written is written with it
pub written-more : (new more buffer : List ℕ) (at : ℕ) → at ≡ length new → at + length more ≤ length buffer
    → sets (written new buffer) at more ≡ written (new ++ more) buffer
written-more new more buffer at e h =
    let n : ℕ = length new in
    let l : length (written new buffer) ≡ length buffer = written-length new buffer (omega arith) in
    subst (λ (i : ℕ). sets (written new buffer) i more ≡ written (new ++ more) buffer) (sym e)
    (sets-eq more (written new buffer) n (omega arith)
    ∙ ap (λ (x : List ℕ). (x ++ more) ++ drop (n + length more) (written new buffer)) (take-append_seam new (drop n buffer))
    ∙ ap (λ (x : List ℕ). (new ++ more) ++ x) (drop-append-add new (drop n buffer) (length more) ∙ drop-drop (length more) n buffer)
    ∙ ap (λ (k : ℕ). (new ++ more) ++ drop k buffer) (sym (length-append new more)))
