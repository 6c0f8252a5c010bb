-- Laws of the words on a channel, of the sequence of labels and of its beginnings.
use mathlib.Core.Path.{◌≡◌, refl, ap, sym, ◌∙◌}
use mathlib.Core.Bool.{Bool, true, false, cond}
use mathlib.Core.List.{List, [], ◌∷◌, ◌++◌, map, append_assoc, IsPrefix}
use Prim.Native.Nat.{ℕ, suc, ◌+◌, ◌%◌, ◌^◌, ◌≤◌}
use native.Mathlib.Omega.{arith}
use lib.Dec.{eqb}
use lib.ListN.{length}
use Rattle.rules.specs.Machine.{Mail}
use Rattle.label_line.specs.Outlet.{labels, words_on}

-- ---- the words on a channel

pub words_on_append : (k : ℕ) (l r : List Mail) → words_on k (l ++ r) ≡ words_on k l ++ words_on k r
unfolding words_on
words_on_append k [] r = refl
words_on_append k (x ∷ l) r = go (eqb k x.channel) (words_on_append k l r)
  where
    go : (b : Bool) → words_on k (l ++ r) ≡ words_on k l ++ words_on k r
        → cond b (x.word ∷ words_on k (l ++ r)) (words_on k (l ++ r)) ≡ cond b (x.word ∷ words_on k l) (words_on k l) ++ words_on k r
    go true e = ap (λ (z : List ℕ). x.word ∷ z) e
    go false e = e

pub length-words_on : (k : ℕ) (l : List Mail) → length (words_on k l) ≤ length l
unfolding words_on
length-words_on k [] = omega arith
length-words_on k (x ∷ l) = go (eqb k x.channel) (length-words_on k l)
  where
    go : (b : Bool) → length (words_on k l) ≤ length l → length (cond b (x.word ∷ words_on k l) (words_on k l)) ≤ suc (length l)
    go true h = omega arith
    go false h = omega arith

-- words as messages of one channel
abbrev pub on_channel : ℕ → List ℕ → List Mail
on_channel k l = map (λ w. record { channel = k; word = w }) l

pub on_channel_snoc : (k : ℕ) (l : List ℕ) (w : ℕ) → on_channel k l ++ (record { channel = k; word = w } ∷ []) ≡ on_channel k (l ++ (w ∷ []))
on_channel_snoc k [] w = refl
on_channel_snoc k (x ∷ l) w = ap (λ (z : List Mail). record { channel = k; word = x } ∷ z) (on_channel_snoc k l w)

-- ---- the sequence as registers hold it: serials modulo 2^32

abbrev pub word : ℕ → ℕ
word n = n % 2 ^ 32

unfoldable pub word_labels : ℕ → List ℕ → List ℕ
word_labels first [] = []
word_labels first (code ∷ codes) = code ∷ word first ∷ word_labels (suc first) codes

shifted : (first n : ℕ) → suc first + n ≡ first + suc n
shifted first n = omega arith

pub word_labels_append : (first : ℕ) (codes more : List ℕ) → word_labels first (codes ++ more) ≡ word_labels first codes ++ word_labels (first + length codes) more
unfolding word_labels
word_labels_append first [] more = ap (λ (n : ℕ). word_labels n more) (let e : first ≡ first + 0 = omega arith in e)
word_labels_append first (c ∷ codes) more =
    ap (λ (z : List ℕ). c ∷ word first ∷ z)
    (word_labels_append (suc first) codes more
    ∙ ap (λ (n : ℕ). word_labels (suc first) codes ++ word_labels n more) (shifted first (length codes)))

-- the label of one more carton
pub word_labels_snoc : (first : ℕ) (codes : List ℕ) (code : ℕ)
    → word_labels first (codes ++ (code ∷ [])) ≡ word_labels first codes ++ (code ∷ word (first + length codes) ∷ [])
unfolding word_labels
word_labels_snoc first codes code = word_labels_append first codes (code ∷ [])

-- as long as no serial passes 2^32 - 1 it is the sequence
pub word_labels_labels : (first : ℕ) (codes : List ℕ) → first + length codes ≤ 2 ^ 32 → word_labels first codes ≡ labels first codes
unfolding word_labels labels
word_labels_labels first [] h = refl
word_labels_labels first (c ∷ codes) h =
    let e : word first ≡ first = omega arith in
    rw (e, word_labels_labels (suc first) codes (omega arith))

-- ---- beginnings

pub prefix_trans : (a b c : List ℕ) → IsPrefix a b → IsPrefix b c → IsPrefix a c
prefix_trans a b c (t, e) (u, f) = (t ++ u, sym (append_assoc a t u) ∙ ap (λ (z : List ℕ). z ++ u) e ∙ f)

-- the labels of the first cartons begin the labels of all
pub word_labels_prefix : (first : ℕ) (codes more : List ℕ) → IsPrefix (word_labels first codes) (word_labels first (codes ++ more))
word_labels_prefix first codes more = (word_labels (first + length codes) more, sym (word_labels_append first codes more))
