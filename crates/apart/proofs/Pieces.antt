-- The next piece of what is taken apart, and what is left behind it: of some bytes, of a program, of the records.
use mathlib.Core.Path.{◌≡◌, ap, sym, ◌∙◌}
use mathlib.Core.Bool.{true}
use mathlib.Core.List.{List, [], ◌∷◌, ◌++◌}
use Prim.Native.Nat.{ℕ, suc, ◌+◌, ◌-◌, ◌*◌, ◌≤◌, ◌<◌}
use native.Mathlib.Omega.{arith}
use lib.Dec.{leb}
use lib.ListN.{length, get_or, take, drop, length-drop}
use lib.Seq.{drop-cons, drop-drop, get_or-drop}
use borrow.Author.Tests.{leb-true}
use Rattle.facts.specs.Tests.{and_left, and_right}
use Rattle.facts.specs.Laying.{one_fewer}
use Rattle.backup.specs.Limits.{pc_most}
use Rattle.rules.specs.Bytes.{byte_at, number32}
use Rattle.rules.specs.Sizes.{length_place, record_head}
use Rattle.rules.specs.Format.{program_length, record_length, records_ok}
use Rattle.rules.specs.Encode.{if_limits, program_in, placements_in, limits_in, instructions_in}

-- ---- some bytes

pub take_next : (l : List ℕ) (at n k : ℕ) → k < n → at + n ≤ length l
    → take (n - k) (drop (at + k) l) ≡ (get_or l (at + k) 0 ∷ []) ++ take (n - (k + 1)) (drop (at + (k + 1)) l)
take_next l at n k h r =
    (λ j. take (one_fewer n k h j) (drop-cons l (at + k) 0 (let z : at + k < length l = omega arith in z) j))
    ∙ ap (λ (i : ℕ). get_or l (at + k) 0 ∷ take (n - (k + 1)) (drop i l)) (let z : suc (at + k) ≡ at + (k + 1) = omega arith in z)

-- ---- a program, and records

-- what six bytes say
abbrev pub three_at : List ℕ → ℕ → List ℕ
three_at t at = byte_at t at ∷ byte_at t (at + 1) ∷ number32 (byte_at t (at + 2)) (byte_at t (at + 3)) (byte_at t (at + 4)) (byte_at t (at + 5)) ∷ []

pub program_in_next : (t : List ℕ) (at n k : ℕ) → k < n
    → program_in (n - k) (drop (at + 6 * k) t) ≡ three_at t (at + 6 * k) ++ program_in (n - (k + 1)) (drop (at + 6 * (k + 1)) t)
program_in_next t at n k h =
    let m = at + 6 * k in
    let x : (i : ℕ) → get_or (drop m t) i 0 ≡ get_or t (m + i) 0 = λ i. get_or-drop m t i 0 in
    let x0 : get_or (drop m t) 0 0 ≡ get_or t m 0 = x 0 ∙ ap (λ (j : ℕ). get_or t j 0) (let z : m + 0 ≡ m = omega arith in z) in
    let later : drop 6 (drop m t) ≡ drop (at + 6 * (k + 1)) t = drop-drop 6 m t ∙ ap (λ (j : ℕ). drop j t) (let z : m + 6 ≡ at + 6 * (k + 1) = omega arith in z) in
    ap (λ (c : ℕ). program_in c (drop m t)) (one_fewer n k h)
    ∙ (λ j. x0 j ∷ x 1 j ∷ number32 (x 2 j) (x 3 j) (x 4 j) (x 5 j) ∷ program_in (n - (k + 1)) (later j))

module _ (t : List ℕ) (v n p at : ℕ) (h : p < n) where
  -- the n of the record at `at`
  abbrev here : ℕ
  here = byte_at t (at + length_place v)

  n_here : program_length v (drop at t) ≡ here
  n_here = get_or-drop at t (length_place v) 0

  length_here : record_length v (drop at t) ≡ record_head v + 6 * here
  length_here = ap (λ (k : ℕ). record_head v + 6 * k) n_here

  later_here : drop (record_length v (drop at t)) (drop at t) ≡ drop (at + (record_head v + 6 * here)) t
  later_here = ap (λ (k : ℕ). drop k (drop at t)) length_here ∙ drop-drop (record_head v + 6 * here) at t

  pub placements-next : placements_in v (n - p) (drop at t)
      ≡ (byte_at t at ∷ byte_at t (at + 1) ∷ here ∷ []) ++ placements_in v (n - (p + 1)) (drop (at + (record_head v + 6 * here)) t)
  unfolding placements_in
  placements-next =
      let x0 : get_or (drop at t) 0 0 ≡ get_or t at 0 = get_or-drop at t 0 0 ∙ ap (λ (j : ℕ). get_or t j 0) (let z : at + 0 ≡ at = omega arith in z) in
      ap (λ (c : ℕ). placements_in v c (drop at t)) (one_fewer n p h)
      ∙ (λ j. x0 j ∷ get_or-drop at t 1 0 j ∷ n_here j ∷ placements_in v (n - (p + 1)) (later_here j))

  pub limits-next : limits_in v (n - p) (drop at t)
      ≡ if_limits v (byte_at t (at + 2)) ++ limits_in v (n - (p + 1)) (drop (at + (record_head v + 6 * here)) t)
  unfolding limits_in
  limits-next =
      ap (λ (c : ℕ). limits_in v c (drop at t)) (one_fewer n p h)
      ∙ (λ j. if_limits v (get_or-drop at t 2 0 j) ++ limits_in v (n - (p + 1)) (later_here j))

  pub instructions-next : instructions_in v (n - p) (drop at t)
      ≡ program_in here (drop (at + record_head v) t) ++ instructions_in v (n - (p + 1)) (drop (at + (record_head v + 6 * here)) t)
  unfolding instructions_in
  instructions-next =
      ap (λ (c : ℕ). instructions_in v c (drop at t)) (one_fewer n p h)
      ∙ (λ j. program_in (n_here j) (drop-drop (record_head v) at t j) ++ instructions_in v (n - (p + 1)) (later_here j))

  module _ (ok : records_ok v (n - p) (drop at t) ≡ true) where
    split : records_ok v (suc (n - (p + 1))) (drop at t) ≡ true
    split = sym (ap (λ (c : ℕ). records_ok v c (drop at t)) (one_fewer n p h)) ∙ ok

    pub record_within : at + (record_head v + 6 * here) ≤ length t
    record_within =
        let a = leb-true (record_length v (drop at t)) (length (drop at t))
        (and_left (leb (record_length v (drop at t)) (length (drop at t))) _ (and_right (leb (program_length v (drop at t)) pc_most) _ split)) in
        let b = length-drop at t in
        let c = length_here in
        omega arith

    pub records-behind : records_ok v (n - (p + 1)) (drop (at + (record_head v + 6 * here)) t) ≡ true
    records-behind =
        sym (ap (records_ok v (n - (p + 1))) later_here)
        ∙ and_right (leb (record_length v (drop at t)) (length (drop at t))) _ (and_right (leb (program_length v (drop at t)) pc_most) _ split)
