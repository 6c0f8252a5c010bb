-- Bytes and programs taken as numbers, in a loop while some are left.
use mathlib.Core.Path.{◌≡◌, refl, ap, ◌∙◌}
use mathlib.Core.List.{List, [], ◌∷◌}
use Prim.Native.Nat.{ℕ, ◌+◌, ◌-◌, ◌*◌, ◌/◌, ◌≤◌, ◌<◌}
use native.Mathlib.Omega.{arith}
use lib.ListN.{length, get_or, take, drop, set}
use lib.Seq.{sets}
use Rattle.rules.specs.Encode.{program_in}
use Rattle.records.specs.Fetch.{numbered, fetched}
use Rattle.records.specs.declared.fetch.Instruction.{Instruction}
use Rattle.records.proofs.Sixes.{six_from}
use Rattle.facts.specs.Laying.{three_put, Laying, laying_start, laying_more, laying_end}
use Rattle.apart.proofs.Pieces.{take_next, three_at, program_in_next}

-- ---- bytes taken as numbers

pub record BytesTaken (before table : List ℕ) (at n : ℕ) (after : List ℕ) (k : ℕ) : Type 0 where
  pub passed : k ≤ n
  pub laid : Laying before 0 (take n (drop at table)) after k (take (n - k) (drop (at + k) table))

module _ (before table : List ℕ) (at n : ℕ) (r : at + n ≤ length table) where
  pub bytes_start : BytesTaken before table at n before 0
  bytes_start =
      let z : n - 0 ≡ n = omega arith in
      let i : at + 0 ≡ at = omega arith in
      record { passed = omega arith; laid = laying_start before 0 (take n (drop at table)) 0 (take (n - 0) (drop (at + 0) table)) refl (λ j. take (z j) (drop (i j) table)) }

  module _ (after : List ℕ) (k : ℕ) (h : BytesTaken before table at n after k) where
    pub bytes_more : (x : ℕ) → k < n → x ≡ get_or table (at + k) 0 → BytesTaken before table at n (set after k x) (k + 1)
    bytes_more x l e = record {
      passed = omega arith;
      laid = laying_more (get_or table (at + k) 0 ∷ []) (take (n - (k + 1)) (drop (at + (k + 1)) table)) (set after k x) (k + 1) h.laid (take_next table at n k l r)
          (ap (set after k) e) refl;
    }

    pub bytes_end : n ≤ k → after ≡ sets before 0 (take n (drop at table))
    bytes_end l = laying_end h.laid (ap (λ (m : ℕ). take m (drop (at + k) table)) (let z : n - k ≡ 0 = omega arith in z))

-- ---- a program's numbers from its bytes

pub record ProgramTaken (before table : List ℕ) (at n i : ℕ) (after : List ℕ) (k : ℕ) : Type 0 where
  pub passed : k ≤ n
  pub laid : Laying before (3 * i) (program_in n (drop at table)) after (3 * (i + k)) (program_in (n - k) (drop (at + 6 * k) table))

module _ (before table : List ℕ) (at n i : ℕ) where
  pub taken_start : ProgramTaken before table at n i before 0
  taken_start =
      let z : n - 0 ≡ n = omega arith in
      let y : at + 6 * 0 ≡ at = omega arith in
      record {
        passed = omega arith;
        laid = laying_start before (3 * i) (program_in n (drop at table)) (3 * (i + 0)) (program_in (n - 0) (drop (at + 6 * 0) table))
            (omega arith) (λ j. program_in (z j) (drop (y j) table));
      }

  module _ (after : List ℕ) (k : ℕ) (h : ProgramTaken before table at n i after k) where
    pub taken_more : (s : Instruction) (x : ℕ) → k < n → at + 6 * n ≤ length table → s ≡ fetched table at k → x ≡ s.code
        → ProgramTaken before table at n i (set (set (set after (3 * (i + k)) x) (3 * (i + k) + 1) s.a) (3 * (i + k) + 2) s.operand) (k + 1)
    unfolding fetched
    taken_more s x l r e c =
        let m = at + 6 * k in
        let is = e ∙ six_from numbered ((length table - at) / 6) table at k (numbered 0 0 0) (omega arith) in
        record {
          passed = omega arith;
          laid = laying_more (three_at table m) (program_in (n - (k + 1)) (drop (at + 6 * (k + 1)) table)) _ (3 * (i + (k + 1))) h.laid (program_in_next table at n k l)
              (three_put after (3 * (i + k)) _ _ _ x s.a s.operand (c ∙ ap (λ (y : Instruction). y.code) is) (ap (λ (y : Instruction). y.a) is)
              (ap (λ (y : Instruction). y.operand) is)) (omega arith);
        }

    pub taken-end : n ≤ k → after ≡ sets before (3 * i) (program_in n (drop at table))
    taken-end l = laying_end h.laid (ap (λ (m : ℕ). program_in m (drop (at + 6 * k) table)) (let z : n - k ≡ 0 = omega arith in z))
