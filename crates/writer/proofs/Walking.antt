-- The records, one process after the other, laid out from lists.
use mathlib.Core.Path.{◌≡◌, refl, ap, sym, subst, ◌∙◌}
use mathlib.Core.Bool.{Bool, true, false, cond}
use mathlib.Core.List.{List, ◌++◌, map, append_assoc}
use Prim.Native.Nat.{ℕ, ◌+◌, ◌-◌, ◌*◌, ◌≤◌, ◌<◌}
use native.Mathlib.Omega.{arith}
use lib.Dec.{leb}
use lib.ListN.{length, get_or, drop, length-append}
use lib.Seq.{sets}
use borrow.Author.Tests.{leb-true}
use Rattle.facts.specs.Tests.{all_of, and_left, and_right}
use Rattle.backup.specs.Limits.{pc_most}
use Rattle.rules.specs.Sizes.{with_limits, limit_bytes, record_head}
use Rattle.rules.specs.Encode.{Lists, program_bytes, records_for, program_lengths, total}
use Rattle.rules.proofs.Encoding.{length-program_bytes}
use Rattle.writer.specs.Given.{Programs}
use Rattle.writer.specs.Fitted.{fit_byte, fit_threes, head_for, records_laid}
use Rattle.facts.specs.Laying.{Laying, laying_start, laying_more, laying_end, laying_room}
use Rattle.writer.proofs.Pieces.{lengths_next, length-head_for, record_next}

-- no limit has been laid out, and no more than there are
none_yet : (v : ℕ) → limit_bytes v * 0 ≡ 0
none_yet v = omega arith

more-limits : (v a b : ℕ) → a ≤ b → limit_bytes v * a ≤ limit_bytes v * b
more-limits v a b h = go (with_limits v)
  where
    go : (w : Bool) → cond w 1 0 * a ≤ cond w 1 0 * b
    go true = omega arith
    go false = omega arith

-- ---- laid out

module _ (before : List ℕ) (at : ℕ) (s : Lists) where
  -- those from process p on
  abbrev records_from : ℕ → ℕ → List ℕ
  records_from i p = records_for s.version (s.processes - p) (drop (3 * p) (map fit_byte s.placements)) (drop (limit_bytes s.version * p) (map fit_byte s.limits)) (drop (3 * i) (fit_threes s.instructions))

  pub record RecordsLaid (after : List ℕ) (next i p : ℕ) : Type 0 where
    pub passed : p ≤ s.processes
    pub few : all_of (λ n. leb n pc_most) (program_lengths (s.processes - p) (drop (3 * p) s.placements)) ≡ true
    pub left : 3 * (i + total (program_lengths (s.processes - p) (drop (3 * p) s.placements))) ≡ length s.instructions
    pub laid : Laying before at (records_laid s) after next (records_from i p)

  pub records_start_lem : Programs s → RecordsLaid before at 0 0
  records_start_lem g =
      let z : s.processes - 0 ≡ s.processes = omega arith in
      let y = none_yet s.version in
      let w = g.whole in
      record {
        passed = omega arith;
        few = ap (λ (m : ℕ). all_of (λ n. leb n pc_most) (program_lengths m s.placements)) z ∙ g.few;
        left = ap (λ (m : ℕ). 3 * (0 + total (program_lengths m s.placements))) z ∙ omega arith;
        laid = laying_start before at (records_laid s) at (records_from 0 0) refl (λ j. records_for s.version (z j) (map fit_byte s.placements) (drop (y j) (map fit_byte s.limits)) (fit_threes s.instructions));
      }

  -- a limit for each process, or none
  pub limits-room : Programs s → (p : ℕ) → p < s.processes → limit_bytes s.version * (p + 1) ≤ length s.limits
  limits-room g p h = let a = g.limited in let b = more-limits s.version (p + 1) s.processes (omega arith) in omega arith

  module _ (after : List ℕ) (next i p : ℕ) (h : RecordsLaid after next i p) where
    module _ (m : ℕ) (e : m ≡ get_or s.placements (3 * p + 2) 0) (l : p < s.processes) where
      next-few : m ≤ 64
      next-few =
          let n = get_or s.placements (3 * p + 2) 0 in
          let a = sym (ap (all_of (λ k. leb k pc_most)) (lengths_next s.placements s.processes p l)) ∙ h.few in
          let b = leb-true n pc_most (and_left (leb n pc_most) _ a) in
          omega arith

      next-instructions : 3 * (i + m) ≤ length s.instructions
      next-instructions =
          let a = h.left in
          let b = ap total (lengths_next s.placements s.processes p l) in
          omega arith

      abbrev program : List ℕ
      program = program_bytes m (drop (3 * i) (fit_threes s.instructions))

      -- the record's first bytes, its program, and the records behind it
      split : records_from i p ≡ head_for s p ++ (program ++ records_from (i + m) (p + 1))
      split =
          let f = next-few in
          record_next s s.processes p i l (omega arith)
          ∙ ap (λ (n : ℕ). head_for s p ++ (program_bytes n (drop (3 * i) (fit_threes s.instructions)) ++ records_from (i + n) (p + 1))) (sym e)

      next-room : at + length (records_laid s) ≤ length before → next + (record_head s.version + 6 * m) ≤ length after
      next-room r =
          let a = laying_room (head_for s p ++ program) (records_from (i + m) (p + 1)) h.laid
          (split ∙ sym (append_assoc (head_for s p) program (records_from (i + m) (p + 1)))) r in
          let b = length-program_bytes m (drop (3 * i) (fit_threes s.instructions)) in
          let c = length-head_for s p in
          let d = length-append (head_for s p) program in
          omega arith

      -- what the code asks for
      pub next_facts : at + length (records_laid s) ≤ length before
          → (m ≤ 64) × (3 * (i + m) ≤ length s.instructions) × (next + (record_head s.version + 6 * m) ≤ length after) × (length after ≡ length before)
      next_facts r = (next-few, next-instructions, next-room r, h.laid.same_length)

      records-more : (after1 after2 : List ℕ) → after1 ≡ sets after next (head_for s p) → after2 ≡ sets after1 (next + record_head s.version) program
          → RecordsLaid after2 (next + (record_head s.version + 6 * m)) (i + m) (p + 1)
      records-more after1 after2 e1 e2 =
          let b = length-program_bytes m (drop (3 * i) (fit_threes s.instructions)) in
          let a = sym (ap (all_of (λ k. leb k pc_most)) (lengths_next s.placements s.processes p l)) ∙ h.few in
          let c = ap total (lengths_next s.placements s.processes p l) in
          let d = h.left in
          let f = length-head_for s p in
          let one =
          laying_more (head_for s p) (program ++ records_from (i + m) (p + 1)) after1 (next + record_head s.version) h.laid split e1
          (ap (λ (k : ℕ). next + k) (sym f)) in
          record {
            passed = omega arith;
            few = and_right (leb (get_or s.placements (3 * p + 2) 0) pc_most) _ a;
            left = omega arith;
            laid = laying_more program (records_from (i + m) (p + 1)) after2 (next + (record_head s.version + 6 * m)) one refl e2 (omega arith);
          }

      -- as the code has it, with the first bytes counted
      pub records_on : (size : ℕ) → size ≡ record_head s.version → (after1 after2 : List ℕ) → after1 ≡ sets after next (head_for s p) → after2 ≡ sets after1 (next + size) program
          → RecordsLaid after2 (next + (size + 6 * m)) (i + m) (p + 1)
      records_on size f after1 after2 e1 =
          subst (λ (k : ℕ). after2 ≡ sets after1 (next + k) program → RecordsLaid after2 (next + (k + 6 * m)) (i + m) (p + 1)) (sym f) (records-more after1 after2 e1)

    pub records-end : s.processes ≤ p → after ≡ sets before at (records_laid s)
    records-end l =
        laying_end h.laid
        (ap (λ (m : ℕ). records_for s.version m (drop (3 * p) (map fit_byte s.placements)) (drop (limit_bytes s.version * p) (map fit_byte s.limits)) (drop (3 * i) (fit_threes s.instructions)))
        (let z : s.processes - p ≡ 0 = omega arith in z))
