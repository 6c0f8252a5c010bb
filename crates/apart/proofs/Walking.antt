-- The records, one process after the other, taken apart into lists.
use mathlib.Core.Path.{◌≡◌, refl, ap, sym, subst, ◌∙◌}
use mathlib.Core.Bool.{Bool, true, false, cond}
use mathlib.Core.List.{List, [], ◌∷◌, ◌++◌}
use Prim.Native.Nat.{ℕ, zero, suc, ◌+◌, ◌-◌, ◌*◌, ◌≤◌, ◌<◌}
use native.Mathlib.Omega.{arith}
use lib.ListN.{length, take, drop, set}
use lib.Seq.{sets, get_or-drop}
use Rattle.facts.specs.Lists.{part-rest}
use Rattle.rules.specs.Bytes.{byte_at}
use Rattle.rules.specs.Sizes.{with_limits, length_place, record_head}
use Rattle.rules.specs.Format.{record_length, records_ok}
use Rattle.rules.specs.Encode.{program_in, placements_in, limits_in, instructions_in}
use Rattle.rules.proofs.Apart.{length-program_in}
use Rattle.facts.specs.Laying.{Laying, laying_start, laying_more, laying_end, laying_room}
use Rattle.apart.proofs.Pieces.{placements-next, limits-next, instructions-next, record_within, records-behind}

-- ---- placements and instructions

module _ (table : List ℕ) (at v processes : ℕ) (ps₀ is₀ : List ℕ) where
  pub record RecordsTaken (ps is : List ℕ) (next i p : ℕ) : Type 0 where
    pub passed : p ≤ processes
    pub ok : records_ok v (processes - p) (drop next table) ≡ true
    pub placed : Laying ps₀ 0 (placements_in v processes (drop at table)) ps (3 * p) (placements_in v (processes - p) (drop next table))
    pub coded : Laying is₀ 0 (instructions_in v processes (drop at table)) is (3 * i) (instructions_in v (processes - p) (drop next table))

  pub taking_start : records_ok v processes (drop at table) ≡ true → RecordsTaken ps₀ is₀ at 0 0
  taking_start g =
      let z : processes - 0 ≡ processes = omega arith in
      record {
        passed = omega arith;
        ok = ap (λ (m : ℕ). records_ok v m (drop at table)) z ∙ g;
        placed = laying_start ps₀ 0 (placements_in v processes (drop at table)) (3 * 0) (placements_in v (processes - 0) (drop at table)) (omega arith)
            (λ j. placements_in v (z j) (drop at table));
        coded = laying_start is₀ 0 (instructions_in v processes (drop at table)) (3 * 0) (instructions_in v (processes - 0) (drop at table)) (omega arith)
            (λ j. instructions_in v (z j) (drop at table));
      }

  module _ (ps is : List ℕ) (next i p : ℕ) (h : RecordsTaken ps is next i p) where
    module _ (l : p < processes) where
      -- the n of the next record, and where the one behind it begins
      abbrev n : ℕ
      n = byte_at table (next + length_place v)

      abbrev behind : ℕ
      behind = next + (record_head v + 6 * n)

      pub taking_within : behind ≤ length table
      taking_within = record_within table v processes p next l h.ok

      pub placed-room : length (placements_in v processes (drop at table)) ≤ length ps₀ → 3 * p + 3 ≤ length ps
      placed-room r =
          laying_room (byte_at table next ∷ byte_at table (next + 1) ∷ n ∷ []) (placements_in v (processes - (p + 1)) (drop behind table)) h.placed
          (placements-next table v processes p next l) (omega arith)

      pub coded_room : length (instructions_in v processes (drop at table)) ≤ length is₀ → 3 * (i + n) ≤ length is
      coded_room r =
          let a : 3 * i + length (program_in n (drop (next + record_head v) table)) ≤ length is =
          laying_room (program_in n (drop (next + record_head v) table)) (instructions_in v (processes - (p + 1)) (drop behind table)) h.coded
          (instructions-next table v processes p next l) (omega arith) in
          let b = length-program_in n (drop (next + record_head v) table) in
          omega arith

      pub taking_more : (m : ℕ) (ps' is' : List ℕ) → m ≡ n
          → ps' ≡ sets ps (3 * p) (byte_at table next ∷ byte_at table (next + 1) ∷ n ∷ [])
          → is' ≡ sets is (3 * i) (program_in m (drop (next + record_head v) table))
          → RecordsTaken ps' is' (next + (record_head v + 6 * m)) (i + m) (p + 1)
      taking_more m ps' is' e e1 e2 =
          let b = length-program_in n (drop (next + record_head v) table) in
          let base : RecordsTaken ps' is' behind (i + n) (p + 1) = record {
            passed = omega arith;
            ok = records-behind table v processes p next l h.ok;
            placed = laying_more (byte_at table next ∷ byte_at table (next + 1) ∷ n ∷ []) (placements_in v (processes - (p + 1)) (drop behind table)) ps'
                (3 * (p + 1)) h.placed (placements-next table v processes p next l) e1 (omega arith);
            coded = laying_more (program_in n (drop (next + record_head v) table)) (instructions_in v (processes - (p + 1)) (drop behind table)) is'
                (3 * (i + n)) h.coded (instructions-next table v processes p next l)
                (e2 ∙ ap (λ (k : ℕ). sets is (3 * i) (program_in k (drop (next + record_head v) table))) e) (omega arith);
          } in
          subst (λ (k : ℕ). RecordsTaken ps' is' (next + (record_head v + 6 * k)) (i + k) (p + 1)) (sym e) base

      -- as the code has it, with the place of n found
      pub taking_on : (place m : ℕ) (ps' is' : List ℕ) → place ≡ length_place v → m ≡ byte_at table (next + place)
          → ps' ≡ sets ps (3 * p) (byte_at table next ∷ byte_at table (next + 1) ∷ byte_at table (next + place) ∷ [])
          → is' ≡ sets is (3 * i) (program_in m (drop (next + (1 + place)) table))
          → RecordsTaken ps' is' (next + (1 + place + 6 * m)) (i + m) (p + 1)
      taking_on place m ps' is' e =
          subst (λ (k : ℕ). m ≡ byte_at table (next + k) → ps' ≡ sets ps (3 * p) (byte_at table next ∷ byte_at table (next + 1) ∷ byte_at table (next + k) ∷ [])
          → is' ≡ sets is (3 * i) (program_in m (drop (next + (1 + k)) table)) → RecordsTaken ps' is' (next + (1 + k + 6 * m)) (i + m) (p + 1)) (sym e)
          (taking_more m ps' is')

    module _ (l : processes ≤ p) where
      pub placed_end : ps ≡ sets ps₀ 0 (placements_in v processes (drop at table))
      unfolding placements_in
      placed_end = laying_end h.placed (ap (λ (m : ℕ). placements_in v m (drop next table)) (let z : processes - p ≡ 0 = omega arith in z))

      pub coded_end : is ≡ sets is₀ 0 (instructions_in v processes (drop at table))
      unfolding instructions_in
      coded_end = laying_end h.coded (ap (λ (m : ℕ). instructions_in v m (drop next table)) (let z : processes - p ≡ 0 = omega arith in z))

-- ---- the limits

-- of a version without them: none
pub no_limits : (v n : ℕ) (rest : List ℕ) → with_limits v ≡ false → limits_in v n rest ≡ []
unfolding limits_in
no_limits v zero rest e = refl
no_limits v (suc n) rest e =
    ap (λ (w : Bool). cond w (byte_at rest 2 ∷ []) [] ++ limits_in v n (drop (record_length v rest) rest)) e ∙ no_limits v n (drop (record_length v rest) rest) e

-- the length of the record at `at`, in the rest of the table that the code hands on
pub record_length-lent : (v : ℕ) (table : List ℕ) (at : ℕ)
    → record_length v (take (length table - at) (drop at table)) ≡ record_head v + 6 * byte_at table (at + length_place v)
record_length-lent v table at = ap (record_length v) (part-rest table at) ∙ ap (λ (k : ℕ). record_head v + 6 * k) (get_or-drop at table (length_place v) 0)

module _ (table : List ℕ) (at v processes : ℕ) (ls₀ : List ℕ) where
  pub record LimitsTaken (ls : List ℕ) (next p : ℕ) : Type 0 where
    pub passed : p ≤ processes
    pub ok : records_ok v (processes - p) (drop next table) ≡ true
    pub limited : Laying ls₀ 0 (limits_in v processes (drop at table)) ls p (limits_in v (processes - p) (drop next table))

  pub limits_start : records_ok v processes (drop at table) ≡ true → LimitsTaken ls₀ at 0
  limits_start g =
      let z : processes - 0 ≡ processes = omega arith in
      record {
        passed = omega arith;
        ok = ap (λ (m : ℕ). records_ok v m (drop at table)) z ∙ g;
        limited = laying_start ls₀ 0 (limits_in v processes (drop at table)) 0 (limits_in v (processes - 0) (drop at table)) refl (λ j. limits_in v (z j) (drop at table));
      }

  module _ (yes : with_limits v ≡ true) (ls : List ℕ) (next p : ℕ) (h : LimitsTaken ls next p) where
    module _ (l : p < processes) where
      abbrev following : ℕ
      following = next + (record_head v + 6 * byte_at table (next + length_place v))

      this_limit : limits_in v (processes - p) (drop next table)
          ≡ (byte_at table (next + 2) ∷ []) ++ limits_in v (processes - (p + 1)) (drop following table)
      this_limit =
          limits-next table v processes p next l
          ∙ ap (λ (w : Bool). cond w (byte_at table (next + 2) ∷ []) [] ++ limits_in v (processes - (p + 1)) (drop following table)) yes

      pub limit-within : following ≤ length table
      limit-within = record_within table v processes p next l h.ok

      pub limit-room : length (limits_in v processes (drop at table)) ≤ length ls₀ → p + 1 ≤ length ls
      limit-room r =
          laying_room (byte_at table (next + 2) ∷ []) (limits_in v (processes - (p + 1)) (drop following table)) h.limited this_limit (omega arith)

      pub limits-more : (x next' : ℕ) → x ≡ byte_at table (next + 2) → next' ≡ following → LimitsTaken (set ls p x) next' (p + 1)
      limits-more x next' e f =
          subst (λ (k : ℕ). LimitsTaken (set ls p x) k (p + 1)) (sym f) record {
            passed = omega arith;
            ok = records-behind table v processes p next l h.ok;
            limited = laying_more (byte_at table (next + 2) ∷ []) (limits_in v (processes - (p + 1)) (drop following table)) (set ls p x) (p + 1)
                h.limited this_limit (ap (set ls p) e) refl;
          }

    pub limits-end : processes ≤ p → ls ≡ sets ls₀ 0 (limits_in v processes (drop at table))
    unfolding limits_in
    limits-end l = laying_end h.limited (ap (λ (m : ℕ). limits_in v m (drop next table)) (let z : processes - p ≡ 0 = omega arith in z))
