-- Numbers 1 to 4: the tests of a table's head, and the walk over its records.
use Rattle.std.specs.Prelude.{None, Some}
use Rattle.std.proofs.lemmas.Option.{none-some, cond_some}
use mathlib.Core.Path.{◌≡◌, refl, ap, ap₂, sym, ◌∙◌}
use mathlib.Core.Bool.{Bool, true, false, cond, ◌&&◌, and_assoc}
use mathlib.Core.List.{List, [], ◌∷◌}
use Prim.Native.Nat.{ℕ, suc, ◌+◌, ◌-◌, ◌≤◌, ◌<◌}
use native.Mathlib.Omega.{arith}
use lib.Dec.{eqb, leb}
use lib.ListN.{length, drop, length-drop}
use lib.Seq.{drop-drop}
use borrow.Author.Tests.{le-leb, lt-leb, leb-true, eq-eqb, ne_eqb}
use Rattle.facts.specs.Tests.{and_right}
use Rattle.backup.specs.Limits.{pc_most}
use Rattle.rules.specs.Cabinet.{is_empty}
use Rattle.rules.specs.Format.{length_field, table_most, version_in, version_ok, processes_in, program_length, record_length, records_start, record_bytes, or_number, length_ok, counts_ok, records_ok, extent_ok}
use Rattle.table.specs.Parts.{record_fits, record_in, framing}

-- ---- number 1

module _ (bytes : List ℕ) where
  pub no_head : length bytes < 6 → false ≡ length_ok bytes
  unfolding length_ok
  no_head h = rw (lt-leb 6 (length bytes) h)

  module _ (field : ℕ) (e : field ≡ length_field bytes) (h : 6 ≤ length bytes) where
    pub too_long : table_most < field → false ≡ length_ok bytes
    unfolding length_ok
    too_long k = rw (le-leb 6 (length bytes) h, lt-leb (length_field bytes) table_most (omega arith))

    pub true-length : field ≤ table_most → eqb (2 + field) (length bytes) ≡ length_ok bytes
    unfolding length_ok
    true-length k = rw (le-leb 6 (length bytes) h, le-leb (length_field bytes) table_most (omega arith), e)

-- ---- number 4, one record

module _ (v : ℕ) (rest : List ℕ) where
  pub record_big : pc_most < program_length v rest → None ≡ record_in v rest
  record_big h = rw (lt-leb (program_length v rest) pc_most h)

  module _ (few : program_length v rest ≤ pc_most) (size : ℕ) (e : size ≡ record_length v rest) where
    pub record_cut : length rest < size → None ≡ record_in v rest
    record_cut h = rw (le-leb (program_length v rest) pc_most few, lt-leb (record_length v rest) (length rest) (omega arith))

    pub record_whole : size ≤ length rest → Some size ≡ record_in v rest
    record_whole h = rw (le-leb (program_length v rest) pc_most few, le-leb (record_length v rest) (length rest) (omega arith)) (ap Some e)

  record_passed : (size : ℕ) → Some size ≡ record_in v rest → (record_fits v rest ≡ true) × (record_length v rest ≡ size)
  record_passed size e = cond_some (record_fits v rest) (record_length v rest) size (sym e)

  record_failed : None ≡ record_in v rest → record_fits v rest ≡ false
  record_failed e = go (record_fits v rest) refl
    where
      go : (b : Bool) → record_fits v rest ≡ b → record_fits v rest ≡ false
      go false k = k
      go true k = absurd (none-some (record_length v rest) (e ∙ ap (λ (t : Bool). cond t (Some (record_length v rest)) None) k))

-- ---- number 4, all records

-- p of n records have passed, the next begins at `at`, and what is left decides
pub record Extending (bytes : List ℕ) (n at p : ℕ) : Type 0 where
  pub within : at ≤ length bytes
  pub passed : p ≤ n
  pub left : records_ok (version_in bytes) n (record_bytes bytes) ≡ records_ok (version_in bytes) (n - p) (drop at bytes)

-- the records end with the table, or not
empty_at : (l : List ℕ) (at : ℕ) → at ≤ length l → is_empty (drop at l) ≡ eqb at (length l)
empty_at l at h = go (drop at l) (length-drop at l)
  where
    go : (r : List ℕ) → length r ≡ length l - at → is_empty r ≡ eqb at (length l)
    go [] e = sym (eq-eqb at (length l) (omega arith))
    go (x ∷ r) e = sym (ne_eqb at (length l) (λ f. omega arith))

module _ (bytes : List ℕ) (n : ℕ) where
  pub extending_start : (at : ℕ) → at ≡ records_start bytes → at ≤ length bytes → Extending bytes n at 0
  extending_start at e h =
      record { within = h; passed = omega arith; left = ap₂ (λ (m i : ℕ). records_ok (version_in bytes) m (drop i bytes)) (let z : n ≡ n - 0 = omega arith in z) (sym e) }

  module _ (at p : ℕ) (x : Extending bytes n at p) (h : p < n) where
    -- the next record, and then those behind it
    next : records_ok (version_in bytes) n (record_bytes bytes) ≡ (record_fits (version_in bytes) (drop at bytes) && records_ok (version_in bytes) (n - (p + 1)) (drop (record_length (version_in bytes) (drop at bytes)) (drop at bytes)))
    next =
        x.left ∙ ap (λ (m : ℕ). records_ok (version_in bytes) m (drop at bytes)) (let z : n - p ≡ suc (n - (p + 1)) = omega arith in z)
        ∙ sym (and_assoc (leb (program_length (version_in bytes) (drop at bytes)) pc_most) (leb (record_length (version_in bytes) (drop at bytes)) (length (drop at bytes))) _)

    pub extending_on : (size : ℕ) → Some size ≡ record_in (version_in bytes) (drop at bytes) → Extending bytes n (at + size) (p + 1)
    extending_on size e =
        let passed = record_passed (version_in bytes) (drop at bytes) size e in
        let ok = passed.0 in
        let same = passed.1 in
        let fits = leb-true (record_length (version_in bytes) (drop at bytes)) (length (drop at bytes)) (and_right (leb (program_length (version_in bytes) (drop at bytes)) pc_most) _ ok) in
        let long = length-drop at bytes in
        let before = x.within in
        record {
          within = omega arith;
          passed = omega arith;
          left = next ∙ ap (λ (t : Bool). t && records_ok (version_in bytes) (n - (p + 1)) (drop (record_length (version_in bytes) (drop at bytes)) (drop at bytes))) ok
              ∙ ap (records_ok (version_in bytes) (n - (p + 1))) (ap (λ (i : ℕ). drop i (drop at bytes)) same ∙ drop-drop size at bytes);
        }

    pub extending_refused : None ≡ record_in (version_in bytes) (drop at bytes) → records_ok (version_in bytes) n (record_bytes bytes) ≡ false
    extending_refused e =
        next ∙ ap (λ (t : Bool). t && records_ok (version_in bytes) (n - (p + 1)) (drop (record_length (version_in bytes) (drop at bytes)) (drop at bytes))) (record_failed (version_in bytes) (drop at bytes) e)

  pub extending_end : (at p : ℕ) → Extending bytes n at p → n ≤ p → records_ok (version_in bytes) n (record_bytes bytes) ≡ eqb at (length bytes)
  extending_end at p x h =
      x.left ∙ ap (λ (m : ℕ). records_ok (version_in bytes) m (drop at bytes)) (let z : n - p ≡ 0 = omega arith in z) ∙ empty_at bytes at x.within

-- ---- number 4

pub no_pairs : (bytes : List ℕ) (start : ℕ) → start ≡ records_start bytes → length bytes < start → false ≡ extent_ok bytes
unfolding extent_ok
no_pairs bytes start e h = rw (lt-leb (records_start bytes) (length bytes) (omega arith))

pub extent_says : (bytes : List ℕ) (start n : ℕ) → start ≡ records_start bytes → start ≤ length bytes → n ≡ processes_in bytes
    → extent_ok bytes ≡ records_ok (version_in bytes) n (record_bytes bytes)
unfolding extent_ok
extent_says bytes start n e h k = rw (le-leb (records_start bytes) (length bytes) (omega arith), k)

-- ---- the four in order, from any tests that say the same

pub framing_from : (bytes : List ℕ) {a b c d : Bool} → a ≡ length_ok bytes → b ≡ version_ok (version_in bytes) → c ≡ counts_ok bytes → d ≡ extent_ok bytes
    → or_number a 1 (or_number b 2 (or_number c 3 (or_number d 4 0))) ≡ framing bytes
unfolding framing
framing_from bytes e f g h = rw (e, f, g, h)
