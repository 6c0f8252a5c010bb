-- The parts put together: the whole table laid out, judged, and written.
use Rattle.std.specs.Prelude.{Ok, Err}
use mathlib.Core.Path.{◌≡◌, refl, ap, sym, subst, ◌∙◌}
use mathlib.Core.Bool.{Bool, true, false, cond, ◌||◌}
use mathlib.Core.List.{List, ◌∷◌, ◌++◌, map}
use Prim.Native.Nat.{ℕ, ◌+◌, ◌*◌, ◌/◌, ◌%◌, ◌^◌, ◌≤◌, ◌<◌}
use native.Mathlib.Omega.{arith}
use lib.Dec.{eqb, leb}
use lib.ListN.{length, take, drop, length-append, length-map}
use lib.Seq.{sets, take_at}
use borrow.Author.Tests.{eqb-true, eq-eqb, ne_eqb, le-leb, lt-leb}
use Rattle.facts.specs.Tests.{by_eq}
use Rattle.numbers.specs.Runs.{number_of, refuses}
use Rattle.numbers.specs.declared.runs.Refusal.{Refusal}
use Rattle.rules.specs.Bytes.{written}
use Rattle.rules.specs.Format.{table_most, or_number, version_ok, counts_fit, validate_table, table_number}
use Rattle.rules.specs.Encode.{Lists, table_of, body_of, encode, lists_ok, validate_lists, validate_write, ReadsAs}
use Rattle.rules.proofs.Valid.{counts-fit}
use Rattle.rules.proofs.Encoding.{long, length-encode, encode-short, encode-reads}
use Rattle.writer.specs.declared.write.Lists as code
use Rattle.writer.specs.Given.{given_by, framing, Fitting, Programs}
use Rattle.writer.specs.Fitted.{fit_byte, fitted, head_bytes, records_laid}
use Rattle.writer.specs.Writes.{Writes}
use Rattle.facts.specs.Laying.{sets_append, sets-front}
use Rattle.writer.proofs.Pieces.{fit_same}
use Rattle.writer.proofs.Fitting.{length-fit_threes, long-fitted, validate_laid}
use Rattle.writer.proofs.FittedSame.{fitted-same}

-- ---- the whole table laid out

module _ (l : Lists) (f : Fitting l) where
  pub programs_of : Programs l
  programs_of =
      let o = long l f.lists_ok_lem in
      record { placed = o.placements-long; limited = o.limits-long; few = o.programs-few; whole = o.instructions-long }

  pub length_laid : (6 + length l.ends + length l.placements + length l.limits + 2 * length l.instructions ≡ length (encode (fitted l)))
      × (length (encode (fitted l)) ≤ 2 + table_most)
  length_laid =
      let o = long l f.lists_ok_lem in
      let o' = long-fitted l o in
      let a = length-encode (fitted l) o' in
      let b = o'.instructions-long in
      let c = length-fit_threes l.instructions in
      let d = o.ends-long in
      let e = o.placements-long in
      let g = length-map l.limits fit_byte in
      (omega arith, encode-short (fitted l) o' f.counts_ok_lem)

  -- the bytes of the three parts: head, ends, records
  pub length-parts : length (encode (fitted l)) ≡ 6 + length l.ends + length (records_laid l)
  unfolding encode
  length-parts =
      let a = length-append (map fit_byte l.ends) (records_laid l) in
      let b = length-map l.ends fit_byte in
      omega arith

-- a version that is one fits a byte
version-fits : (v : ℕ) → version_ok v ≡ true → v < 256
version-fits v h =
    by_eq v 1
    (λ e. omega arith)
    (λ n. let a = eqb-true v 2 (sym (ap (λ (b : Bool). b || eqb v 2) (ne_eqb v 1 n)) ∙ h) in omega arith)

module _ (x : code.Lists) (f : Fitting (given_by x)) where
  abbrev lists : Lists
  lists = given_by x

  abbrev records : List ℕ
  records = records_laid lists

  head_is : (size : ℕ) → 2 + size ≡ length (encode (fitted lists)) → head_bytes size x.head ++ (map fit_byte x.ends.now ++ records) ≡ encode (fitted lists)
  unfolding encode
  head_is size e =
      let n = counts-fit x.head.boards x.head.processes x.head.channels f.counts_ok_lem in
      let body = length (body_of (fitted lists)) in
      let s = (length_laid lists f).1 in
      let same : size ≡ body = omega arith in
      let high : size / 256 % 256 ≡ body / 2 ^ 8 = omega arith in
      let low : size % 256 ≡ body % 2 ^ 8 = omega arith in
      let v = fit_same x.head.version (version-fits x.head.version f.version_ok_lem) in
      let b = fit_same x.head.boards (let z : x.head.boards < 256 = omega arith in z) in
      let p = fit_same x.head.processes (let z : x.head.processes < 256 = omega arith in z) in
      let c = fit_same x.head.channels (let z : x.head.channels < 256 = omega arith in z) in
      λ i. high i ∷ low i ∷ v i ∷ b i ∷ p i ∷ c i ∷ (map fit_byte x.ends.now ++ records)

  pub laid_whole : (before b1 b2 b3 : List ℕ) (size at : ℕ) → 2 + size ≡ length (encode (fitted lists)) → at ≡ 6 + length x.ends.now
      → b1 ≡ sets before 0 (head_bytes size x.head) → b2 ≡ sets b1 6 (map fit_byte x.ends.now) → b3 ≡ sets b2 at records → b3 ≡ sets before 0 (encode (fitted lists))
  laid_whole before b1 b2 b3 size at e ea e1 e2 e3 =
      let top = head_bytes size x.head in
      let m = length-map x.ends.now fit_byte in
      let i2 : 6 ≡ 0 + length top = refl in
      let i3 : at ≡ 0 + length (top ++ map fit_byte x.ends.now) = let a = length-append top (map fit_byte x.ends.now) in omega arith in
      let two : b2 ≡ sets before 0 (top ++ map fit_byte x.ends.now) = e2 ∙ ap (λ (y : List ℕ). sets y 6 (map fit_byte x.ends.now)) e1 ∙ sets_append before 0 top (map fit_byte x.ends.now) in
      e3 ∙ (λ j. sets (two j) (i3 j) records)
      ∙ sets_append before 0 (top ++ map fit_byte x.ends.now) records ∙ ap (sets before 0) (head_is size e)

-- ---- judged

-- what is at the front of a buffer that has room for it
pub front_of : (before new : List ℕ) (n : ℕ) → n ≡ length new → n ≤ length before → take n (sets before 0 new) ≡ new
front_of before new n e h = ap (take n) (sets-front before new (omega arith)) ∙ take_at new (drop (length new) before) n (sym e)

pub judged_laid : (l : Lists) → Fitting l → (before after : List ℕ) (n : ℕ) → n ≡ length (encode (fitted l)) → n ≤ length before
    → after ≡ sets before 0 (encode (fitted l)) → validate_table (take n after) ≡ validate_lists l
judged_laid l f before after n e h s =
    ap (λ (x : List ℕ). validate_table (take n x)) s ∙ ap validate_table (front_of before (encode (fitted l)) n e h) ∙ validate_laid l f

-- ---- the number of a write

by_zero : (n room size : ℕ) → (n ≡ 0 → ⊥) → n ≡ or_number (eqb n 0) n (or_number (leb size room) 45 0)
by_zero n room size h = rw (ne_eqb n 0 h)

module _ (l : Lists) (room : ℕ) where
  pub refused_lists : (r : Refusal) → number_of r ≡ validate_lists l → number_of r ≡ validate_write l room
  unfolding validate_write
  refused_lists r e = e ∙ by_zero (validate_lists l) room (length (encode l)) (λ z. refuses r (e ∙ z))

  framed : (v a b : Bool) (n : ℕ) → (or_number v 2 (or_number a 3 (or_number b 4 0)) ≡ 0 → ⊥)
      → or_number v 2 (or_number a 3 (or_number b 4 0)) ≡ or_number v 2 (or_number a 3 (or_number b 4 n))
  framed true true true n h = absurd (h refl)
  framed true true false n h = refl
  framed true false b n h = refl
  framed false a b n h = refl

  pub refused-framing : (r : Refusal) → number_of r ≡ framing l → number_of r ≡ validate_write l room
  unfolding framing validate_lists
  refused-framing r e =
      refused_lists r (e ∙ framed (version_ok l.version) (counts_fit l.boards l.processes l.channels) (lists_ok l) (table_number (table_of l)) (λ z. refuses r (e ∙ z)))

  module _ (h : validate_lists l ≡ 0) where
    pub refused-room : room < length (encode l) → 45 ≡ validate_write l room
    unfolding validate_write
    refused-room k = sym (ap (λ (n : ℕ). or_number (eqb n 0) n (or_number (leb (length (encode l)) room) 45 0)) h ∙ ap (λ (b : Bool). or_number b 45 0) (lt-leb (length (encode l)) room k))

    pub accepted-room : length (encode l) ≤ room → 0 ≡ validate_write l room
    unfolding validate_write
    accepted-room k = sym (ap (λ (n : ℕ). or_number (eqb n 0) n (or_number (leb (length (encode l)) room) 45 0)) h ∙ ap (λ (b : Bool). or_number b 45 0) (le-leb (length (encode l)) room k))

-- ---- and its promise

pub writes_nothing : (l : Lists) (out : List ℕ) (r : Refusal) → number_of r ≡ validate_write l (length out) → Writes l out (Err r) out
writes_nothing l out r e =
    let off = ne_eqb (validate_write l (length out)) 0 (λ z. refuses r (e ∙ z)) in
    record {
      number_is = e;
      length-is = tt;
      buffer_is = sym (ap (λ (b : Bool). cond b (written (encode l) out) out) off);
      read_back = tt;
    }

pub writes-table : (l : Lists) (out out' : List ℕ) (n : ℕ) → validate_lists l ≡ 0 → n ≡ length (encode (fitted l)) → n ≤ length out
    → out' ≡ sets out 0 (encode (fitted l)) → Writes l out (Ok n) out'
writes-table l out out' n h e k s =
    let same : encode (fitted l) ≡ encode l = ap encode (fitted-same l h) in
    let m : n ≡ length (encode l) = e ∙ ap length same in
    let number = accepted-room l (length out) h (omega arith) in
    let on = eq-eqb (validate_write l (length out)) 0 (sym number) in
    let s' : out' ≡ sets out 0 (encode l) = s ∙ ap (sets out 0) same in
    record {
      number_is = number;
      length-is = m;
      buffer_is = s' ∙ sets-front out (encode l) (omega arith) ∙ sym (ap (λ (b : Bool). cond b (written (encode l) out) out) on);
      read_back = subst (ReadsAs l) (sym (ap (take n) s' ∙ front_of out (encode l) n m (omega arith))) (encode-reads l h);
    }
