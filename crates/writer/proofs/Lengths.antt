-- Numbers 2 to 4 of lists: the tests one after the other, and the pass over the placements.
use mathlib.Core.Logic.{◌≢◌}
use mathlib.Core.Path.{◌≡◌, refl, ap, ◌∙◌}
use mathlib.Core.Bool.{Bool, true, false, ◌&&◌}
use mathlib.Core.List.{List}
use Prim.Native.Nat.{ℕ, ◌+◌, ◌-◌, ◌*◌, ◌≤◌, ◌<◌}
use native.Mathlib.Omega.{arith}
use lib.Dec.{eqb, leb}
use lib.ListN.{length, get_or, drop}
use borrow.Author.Tests.{le-leb, lt-leb, eq-eqb, ne_eqb}
use Rattle.facts.specs.Tests.{all_of}
use Rattle.backup.specs.Limits.{pc_most}
use Rattle.rules.specs.Sizes.{limit_bytes}
use Rattle.rules.specs.Format.{or_number, version_ok, counts_fit}
use Rattle.rules.specs.Encode.{Lists, program_lengths, total, lists_ok}
use Rattle.writer.specs.Given.{framing, Fitting}
use Rattle.writer.proofs.Pieces.{lengths_next}

-- ---- number 4

-- p processes have passed, with so many instructions together, and what is left decides
pub record Counting (ps : List ℕ) (processes sum p : ℕ) : Type 0 where
  pub passed : p ≤ processes
  pub small : sum ≤ 64 * p
  pub sum_left : total (program_lengths processes ps) ≡ sum + total (program_lengths (processes - p) (drop (3 * p) ps))
  pub few_left : all_of (λ n. leb n pc_most) (program_lengths processes ps) ≡ all_of (λ n. leb n pc_most) (program_lengths (processes - p) (drop (3 * p) ps))

module _ (ps : List ℕ) (processes : ℕ) where
  module _ (sum p n : ℕ) (h : Counting ps processes sum p) (l : p < processes) (e : n ≡ get_or ps (3 * p + 2) 0) where
    pub counting_more : n ≤ 64 → Counting ps processes (sum + n) (p + 1)
    counting_more f =
        let here = lengths_next ps processes p l in
        let t = ap total here in
        let s = h.sum_left in
        let b = h.small in
        let few = le-leb (get_or ps (3 * p + 2) 0) pc_most (omega arith) in
        record {
          passed = omega arith;
          small = omega arith;
          sum_left = omega arith;
          few_left = h.few_left ∙ ap (all_of (λ k. leb k pc_most)) here
              ∙ ap (λ (b : Bool). b && all_of (λ k. leb k pc_most) (program_lengths (processes - (p + 1)) (drop (3 * (p + 1)) ps))) few;
        }

    pub counting_over : 64 < n → all_of (λ k. leb k pc_most) (program_lengths processes ps) ≡ false
    counting_over f =
        h.few_left ∙ ap (all_of (λ k. leb k pc_most)) (lengths_next ps processes p l)
        ∙ ap (λ (b : Bool). b && all_of (λ k. leb k pc_most) (program_lengths (processes - (p + 1)) (drop (3 * (p + 1)) ps)))
        (lt-leb (get_or ps (3 * p + 2) 0) pc_most (omega arith))

  pub counting-end : (sum p : ℕ) → Counting ps processes sum p → processes ≤ p
      → (total (program_lengths processes ps) ≡ sum) × (all_of (λ k. leb k pc_most) (program_lengths processes ps) ≡ true)
  counting-end sum p h l =
      let z : processes - p ≡ 0 = omega arith in
      let t = ap (λ (m : ℕ). total (program_lengths m (drop (3 * p) ps))) z in
      let s = h.sum_left in
      (omega arith, h.few_left ∙ ap (λ (m : ℕ). all_of (λ k. leb k pc_most) (program_lengths m (drop (3 * p) ps))) z)

module _ (l : Lists) where
  pub ends_wrong : length l.ends ≢ 2 * l.channels → false ≡ lists_ok l
  unfolding lists_ok
  ends_wrong h = rw (ne_eqb (length l.ends) (2 * l.channels) h)

  module _ (e : length l.ends ≡ 2 * l.channels) where
    pub placements_wrong : length l.placements ≢ 3 * l.processes → false ≡ lists_ok l
    unfolding lists_ok
    placements_wrong h = rw (eq-eqb (length l.ends) (2 * l.channels) e, ne_eqb (length l.placements) (3 * l.processes) h)

    module _ (f : length l.placements ≡ 3 * l.processes) where
      pub limits_wrong : length l.limits ≢ limit_bytes l.version * l.processes → false ≡ lists_ok l
      unfolding lists_ok
      limits_wrong h =
          rw (
            eq-eqb (length l.ends) (2 * l.channels) e,
            eq-eqb (length l.placements) (3 * l.processes) f,
            ne_eqb (length l.limits) (limit_bytes l.version * l.processes) h,
          )

      module _ (g : length l.limits ≡ limit_bytes l.version * l.processes) where
        pub n_wrong : all_of (λ k. leb k pc_most) (program_lengths l.processes l.placements) ≡ false → false ≡ lists_ok l
        unfolding lists_ok
        n_wrong h =
            rw (
              eq-eqb (length l.ends) (2 * l.channels) e,
              eq-eqb (length l.placements) (3 * l.processes) f,
              eq-eqb (length l.limits) (limit_bytes l.version * l.processes) g,
              h,
            )

        pub instructions_tell : (sum : ℕ) → total (program_lengths l.processes l.placements) ≡ sum
            → all_of (λ k. leb k pc_most) (program_lengths l.processes l.placements) ≡ true → eqb (length l.instructions) (3 * sum) ≡ lists_ok l
        unfolding lists_ok
        instructions_tell sum s h =
            rw (
              eq-eqb (length l.ends) (2 * l.channels) e,
              eq-eqb (length l.placements) (3 * l.processes) f,
              eq-eqb (length l.limits) (limit_bytes l.version * l.processes) g,
              h,
              s,
            )

-- ---- 2, 3 and 4

module _ (l : Lists) where
  -- from the three tests
  pub framing_from : {v a b : Bool} → v ≡ version_ok l.version → a ≡ counts_fit l.boards l.processes l.channels → b ≡ lists_ok l
      → or_number v 2 (or_number a 3 (or_number b 4 0)) ≡ framing l
  unfolding framing
  framing_from d e f = λ i. or_number (d i) 2 (or_number (e i) 3 (or_number (f i) 4 0))

  by_fitting : (v a b : Bool) → 0 ≡ or_number v 2 (or_number a 3 (or_number b 4 0)) → (v ≡ true) × (a ≡ true) × (b ≡ true)
  by_fitting true true true h = (refl, refl, refl)
  by_fitting true true false h = absurd (omega arith)
  by_fitting true false b h = absurd (omega arith)
  by_fitting false a b h = absurd (omega arith)

  pub fitting : 0 ≡ framing l → Fitting l
  unfolding framing
  fitting h =
      let r = by_fitting (version_ok l.version) (counts_fit l.boards l.processes l.channels) (lists_ok l) h in
      record { version_ok_lem = r.0; counts_ok_lem = r.1; lists_ok_lem = r.2 }
