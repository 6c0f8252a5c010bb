-- Reading never takes more than is wanted, and puts it at the buffer's front.
use mathlib.Core.Path.{◌≡◌, ap, sym, ◌∙◌}
use mathlib.Core.List.{List, ◌++◌}
use Prim.Native.Nat.{ℕ, ◌+◌, ◌-◌, ◌≤◌, ◌<◌}
use native.Mathlib.Omega.{arith}
use lib.ListN.{length, take, drop}
use lib.Seq.{length-take-le, take-add}
use borrow.Rule.Slice.PartMut.{mid_of, post_of, put_mid, mid_len, same_len_mid}
use Rattle.std.proofs.lemmas.Slice.{take-put_mid_below}
use Rattle.bench_input.specs.Wanted.{wanted_of}
use Rattle.bench_input.proofs.Reading.{settled, wanted_short, wanted_least}
use Rattle.std.specs.declared.option.Option.{Option}
use Rattle.std.specs.Prelude.{None, Some}
use Rattle.std.specs.Io.KnownBytes.{Consumes}
use Rattle.std.proofs.lemmas.List.{take-append-le, drop-append-le, take-append-drop, take-take}
use Rattle.std.proofs.Math.Seq.{take-append-add}
use Rattle.std.proofs.Common.{append_assoc}
use Rattle.bench.specs.Took.{FilledPart, Took}

-- more is read into a part that was begun
pub further : (buffer begun : List ℕ) (from to end : ℕ) → to ≤ length buffer → FilledPart buffer from to end begun → (part : List ℕ)
    → length part ≡ length (mid_of end (to - end) begun) → (n : ℕ) → n ≤ length part → FilledPart buffer from to (end + n) (put_mid end (to - end) begun part)
further buffer begun from to end h f part e n l =
    let f0 = f.begins in
    let f1 = f.ends in
    let f2 = f.same_length in
    let m = mid_len end to begun (omega arith) in
    record {
      begins = omega arith;
      ends = omega arith;
      same_length = same_len_mid end (to - end) begun part e ∙ f2;
      in_front = take-put_mid_below end (to - end) begun part from f0 (omega arith) ∙ f.in_front;
    }

-- ---- the front of a buffer

pub two_there : (buffer : List ℕ) (r : ℕ) (buffer' : List ℕ) → 2 ≤ length buffer → FilledPart buffer 0 2 r buffer' → 2 ≡ length (take 2 buffer')
two_there buffer r buffer' h f = let e = f.same_length in sym (length-take-le 2 buffer' (omega arith))

took : (r : ℕ) (buffer : List ℕ) → r ≤ length buffer → r ≤ wanted_of (take r buffer) → Took r buffer
took r buffer h k = record { within = h; part = sym (length-take-le r buffer h); no_further = k }

pub took-few : (buffer : List ℕ) (r : ℕ) (buffer' : List ℕ) → 2 ≤ length buffer → FilledPart buffer 0 2 r buffer' → r < 2 → Took r buffer'
took-few buffer r buffer' h f l =
    let e = f.same_length in
    let t = length-take-le r buffer' (omega arith) in
    let w = wanted_short (take r buffer') (omega arith) in
    took r buffer' (omega arith) (omega arith)

pub took_two : (buffer : List ℕ) (r : ℕ) (buffer' : List ℕ) → 2 ≤ length buffer → FilledPart buffer 0 2 r buffer' → Took 2 buffer'
took_two buffer r buffer' h f = let e = f.same_length in took 2 buffer' (omega arith) (wanted_least (take 2 buffer'))

pub took_all : (buffer : List ℕ) (r : ℕ) (buffer' : List ℕ) → 2 ≤ length buffer → FilledPart buffer 0 2 r buffer' → (all : ℕ) → all ≡ wanted_of (take 2 buffer')
    → (end : ℕ) → (end ≤ all) × (end ≤ length buffer') → (r'' : ℕ) (buffer'' : List ℕ) → FilledPart buffer' 2 end r'' buffer'' → Took r'' buffer''
took_all buffer r buffer' h f all e end l r'' buffer'' g =
    let m = r'' - 2 in
    let e0 = l.0 in
    let e1 = l.1 in
    let e2 = f.same_length in
    let e3 = g.same_length in
    let e4 = g.begins in
    let e5 = g.ends in
    let t2 = length-take-le 2 buffer' (omega arith) in
    let split : take r'' buffer'' ≡ take 2 buffer' ++ take m (drop 2 buffer'') =
    ap (λ (k : ℕ). take k buffer'') {x = r''} {y = 2 + m} (omega arith) ∙ take-add 2 m buffer'' ∙ ap (λ (x : List ℕ). x ++ take m (drop 2 buffer'')) g.in_front in
    let w : wanted_of (take r'' buffer'') ≡ wanted_of (take 2 buffer') = ap wanted_of split ∙ settled (take 2 buffer') (take m (drop 2 buffer'')) (omega arith) in
    took r'' buffer'' (omega arith) (omega arith)

-- ---- the bytes that come are the reader's first, in order

pub one_after_other : (a b c : Option (List ℕ)) (xs ys : List ℕ) → Consumes a b xs → Consumes b c ys → Consumes a c (xs ++ ys)
one_after_other None b c xs ys h k = tt
one_after_other (Some p) None c xs ys h k = absurd h
one_after_other (Some p) (Some q) None xs ys h k = absurd k
one_after_other (Some p) (Some q) (Some r) xs ys h k = h ∙ ap (λ (w : List ℕ). xs ++ w) k ∙ sym (append_assoc xs ys r)

-- a part read behind a place
pub grown : (buffer part : List ℕ) (from end k n : ℕ) → from ≤ end → end ≤ length buffer → n ≤ length part
    → drop from (take (end + n) (put_mid end k buffer part)) ≡ drop from (take end buffer) ++ take n part
grown buffer part from end k n h h' l =
    let t = length-take-le end buffer h' in
    let post = post_of end k buffer in
    let front : take (end + n) (put_mid end k buffer part) ≡ take end buffer ++ take n part =
    ap (λ (m : ℕ). take (m + n) (put_mid end k buffer part)) (sym t) ∙ take-append-add (take end buffer) (part ++ post) n
    ∙ ap (λ (w : List ℕ). take end buffer ++ w) (take-append-le n part post l) in
    ap (λ (w : List ℕ). drop from w) front ∙ drop-append-le from (take end buffer) (take n part) (omega (arith, t))

-- what is read behind the first two bytes, and these
pub whole : (begun buffer : List ℕ) (end r : ℕ) → FilledPart begun 2 end r buffer → take 2 begun ++ drop 2 (take r buffer) ≡ take r buffer
whole begun buffer end r f =
    let e : take 2 begun ≡ take 2 (take r buffer) = sym f.in_front ∙ sym (take-take 2 r buffer f.begins) in
    ap (λ (w : List ℕ). w ++ drop 2 (take r buffer)) e ∙ take-append-drop 2 (take r buffer)

-- the first two bytes are there, where no fewer are
pub first_two : (buffer begun : List ℕ) (r : ℕ) → FilledPart buffer 0 2 r begun → 2 ≤ r → r ≡ 2
first_two buffer begun r f h = let e = f.ends in omega arith
