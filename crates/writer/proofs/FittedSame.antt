-- Lists that are accepted have no number that doesn't fit its byte: they are as they are fitted.
use mathlib.Core.Path.{◌≡◌, refl, ap, sym, ◌∙◌}
use mathlib.Core.Bool.{Bool, true, false, not, cond, ◌&&◌}
use mathlib.Core.List.{List, [], ◌∷◌, map}
use Prim.Native.Nat.{ℕ, zero, suc, ◌*◌, ◌≤◌, ◌<◌}
use native.Mathlib.Omega.{arith}
use lib.Dec.{eqb, ltb, leb}
use lib.ListN.{length, get_or, drop, length-drop}
use borrow.Author.Tests.{ltb-true, leb-true, ne_eqb}
use Rattle.facts.specs.Tests.{all_of, and_left, and_right, by_eq, no_way, all_below_lem}
use Rattle.facts.specs.Ranges.{all_of_given}
use Rattle.backup.specs.Limits.{pc_most}
use Rattle.rules.specs.Table.{environment, Instruction, SET, ADD, TAKE, FIRST, SEND, JUMP, NONE, Placement, Table, nowhere, code_of}
use Rattle.rules.specs.Judge.{end_ok, ends_ok, inputs_ok, boards_ok, instruction_ok, instructions_ok, limit_ok, limits_ok}
use Rattle.rules.specs.Sizes.{limit_bytes, limit_least, limit_most}
use Rattle.rules.specs.Format.{pairs, instruction, table_number}
use Rattle.rules.specs.Encode.{Lists, threes, placed_by, table_of, program_lengths, total, validate_lists}
use Rattle.rules.proofs.Valid.{test_passed, further-passed, counts-fit}
use Rattle.rules.proofs.Encoding.{long, lists_number, version-accepted, counts-accepted, lists_accepted}
use Rattle.writer.specs.Fitted.{fit_byte, fit_threes, fitted}
use Rattle.writer.proofs.Pieces.{fit_same}
use Rattle.writer.proofs.Fitting.{all_of_weaken, Few, pair_test, board_test, limit_test, end_fits, length-placed_by}

-- an instruction that isn't none, with a register that fits
abbrev small_code : Instruction → Bool
small_code (SET a o) = ltb a 4
small_code (ADD a o) = ltb a 4
small_code (TAKE a o) = ltb a 4
small_code (FIRST a o) = ltb a 3
small_code (SEND a o) = ltb a 4
small_code (JUMP a o) = ltb a 4
small_code NONE = false

small_passes : (t : Table) (p n : ℕ) (x : Instruction) → instruction_ok t p n x ≡ true → small_code x ≡ true
unfolding instruction_ok
small_passes t p n (SET a o) h = h
small_passes t p n (ADD a o) h = and_left (ltb a 4) _ h
small_passes t p n (TAKE a o) h = and_left (ltb a 4) _ h
small_passes t p n (FIRST a o) h = and_left (ltb a 3) _ h
small_passes t p n (SEND a o) h = and_left (ltb a 4) _ h
small_passes t p n (JUMP a o) h = and_left (ltb a 4) _ h
small_passes t p n NONE h = h

small_fits : (c a o : ℕ) → small_code (instruction c a o) ≡ true → (fit_byte c ≡ c) × (fit_byte a ≡ a)
small_fits zero a o h = absurd (no_way (cc))
small_fits (suc zero) a o h = let b = ltb-true a 4 h in (refl, fit_same a (omega arith))
small_fits (suc (suc zero)) a o h = let b = ltb-true a 4 h in (refl, fit_same a (omega arith))
small_fits (suc (suc (suc zero))) a o h = let b = ltb-true a 4 h in (refl, fit_same a (omega arith))
small_fits (suc (suc (suc (suc zero)))) a o h = let b = ltb-true a 3 h in (refl, fit_same a (omega arith))
small_fits (suc (suc (suc (suc (suc zero))))) a o h = let b = ltb-true a 4 h in (refl, fit_same a (omega arith))
small_fits (suc (suc (suc (suc (suc (suc zero)))))) a o h = let b = ltb-true a 4 h in (refl, fit_same a (omega arith))
small_fits (suc (suc (suc (suc (suc (suc (suc n))))))) a o h = absurd (no_way (cc))

threes-same : (k : ℕ) (is : List ℕ) → 3 * k ≤ length is → all_of small_code (threes instruction k is) ≡ true → fit_threes (drop (3 * k) is) ≡ drop (3 * k) is
    → fit_threes is ≡ is
threes-same zero is r h e = e
threes-same (suc k) [] r h e = refl
threes-same (suc k) (c ∷ []) r h e = absurd (omega arith)
threes-same (suc k) (c ∷ a ∷ []) r h e = absurd (omega arith)
threes-same (suc k) (c ∷ a ∷ o ∷ is) r h e =
    let f = small_fits c a o (and_left (small_code (instruction c a o)) _ h) in
    let z : 3 * suc k ≡ suc (suc (suc (3 * k))) = omega arith in
    let later = threes-same k is (omega arith) (and_right (small_code (instruction c a o)) _ h) (rw z at e) in
    λ i. f.0 i ∷ f.1 i ∷ o ∷ later i

instructions-same : (v n : ℕ) (ps ls is : List ℕ) → length is ≡ 3 * total (program_lengths n ps) → all_of (λ (x : Placement). all_of small_code x.code) (placed_by v n ps ls is) ≡ true
    → fit_threes is ≡ is
instructions-same v zero ps ls [] r h = refl
instructions-same v zero ps ls (x ∷ is) r h = absurd (omega arith)
instructions-same v (suc n) ps ls is r h =
    let k = get_or ps 2 0 in
    let d = length-drop (3 * k) is in
    threes-same k is (omega arith) (and_left (all_of small_code (threes instruction k is)) _ h)
    (instructions-same v n (drop 3 ps) (drop (limit_bytes v) ls) (drop (3 * k) is) (omega arith) (and_right (all_of small_code (threes instruction k is)) _ h))

placements-same : (b v n : ℕ) (ps ls is : List ℕ) → b ≤ 16 → length ps ≡ 3 * n → Few n ps → all_of (board_test b) (placed_by v n ps ls is) ≡ true → map fit_byte ps ≡ ps
placements-same b v zero [] ls is s r f h = refl
placements-same b v zero (x ∷ ps) ls is s r f h = absurd (omega arith)
placements-same b v (suc n) [] ls is s r f h = refl
placements-same b v (suc n) (x ∷ []) ls is s r f h = absurd (omega arith)
placements-same b v (suc n) (x ∷ y ∷ []) ls is s r f h = absurd (omega arith)
placements-same b v (suc n) (x ∷ y ∷ k ∷ ps) ls is s r f h =
    let here = and_left (ltb x b && (ltb y b && not (eqb x y))) _ h in
    let lx = ltb-true x b (and_left (ltb x b) _ here) in
    let ly = ltb-true y b (and_left (ltb y b) _ (and_right (ltb x b) _ here)) in
    let lk = leb-true k pc_most (and_left (leb k pc_most) _ f) in
    let later = placements-same b v n ps (drop (limit_bytes v) ls) (drop (3 * k) is) s (omega arith) (and_right (leb k pc_most) _ f) (and_right (ltb x b && (ltb y b && not (eqb x y))) _ h) in
    λ i. fit_same x (let z : x < 256 = omega arith in z) i ∷ fit_same y (let z : y < 256 = omega arith in z) i ∷ fit_same k (let z : k < 256 = omega arith in z) i ∷ later i

-- limits that pass, one for each of n processes
limits-fit : (n : ℕ) (ps ls is : List ℕ) → length ls ≡ n → all_of limit_test (placed_by 2 n ps ls is) ≡ true → map fit_byte ls ≡ ls
limits-fit zero ps [] is r h = refl
limits-fit zero ps (x ∷ ls) is r h = absurd (omega arith)
limits-fit (suc n) ps [] is r h = refl
limits-fit (suc n) ps (x ∷ ls) is r h =
    let here = leb-true x limit_most (and_right (leb limit_least x) _ (and_left (limit_ok x) _ h)) in
    let later = limits-fit n (drop 3 ps) ls (drop (3 * get_or ps 2 0) is) (omega arith) (and_right (limit_ok x) _ h) in
    λ i. fit_same x (let z : x < 256 = omega arith in z) i ∷ later i

-- and of a version that has none
limits-same : (v n : ℕ) (ps ls is : List ℕ) → length ls ≡ limit_bytes v * n → all_of limit_test (placed_by v n ps ls is) ≡ true → map fit_byte ls ≡ ls
limits-same v n ps ls is r h =
    by_eq v 2
    (λ e. limits-fit n ps ls is (r ∙ ap (λ (m : ℕ). limit_bytes m * n) e ∙ omega arith) (sym (ap (λ (m : ℕ). all_of limit_test (placed_by m n ps ls is)) e) ∙ h))
    (λ e. none ls (r ∙ ap (λ (w : Bool). cond w 1 0 * n) (ne_eqb v 2 e) ∙ omega arith))
  where
    none : (m : List ℕ) → length m ≡ 0 → map fit_byte m ≡ m
    none [] e = refl
    none (x ∷ m) e = absurd (omega arith)

ends_same : (m n : ℕ) (ends : List ℕ) → m ≤ 16 → length ends ≡ 2 * n → all_of (pair_test m) (pairs n ends) ≡ true → map fit_byte ends ≡ ends
ends_same m zero [] s r h = refl
ends_same m zero (x ∷ ends) s r h = absurd (omega arith)
ends_same m (suc n) [] s r h = refl
ends_same m (suc n) (x ∷ []) s r h = absurd (omega arith)
ends_same m (suc n) (x ∷ y ∷ ends) s r h =
    let here = and_left (end_ok m x && (end_ok m y && not (eqb x environment && eqb y environment))) _ h in
    let later = ends_same m n ends s (omega arith) (and_right (end_ok m x && (end_ok m y && not (eqb x environment && eqb y environment))) _ h) in
    λ i. end_fits m x s (and_left (end_ok m x) _ here) i ∷ end_fits m y s (and_left (end_ok m y) _ (and_right (end_ok m x) _ here)) i ∷ later i

module _ (l : Lists) (h : validate_lists l ≡ 0) where
  accepted-number : table_number (table_of l) ≡ 0
  accepted-number = sym (lists_number l (version-accepted l h) (counts-accepted l h) (lists_accepted l h)) ∙ h

  pub fitted-same : fitted l ≡ l
  unfolding table_of ends_ok boards_ok instructions_ok limits_ok
  fitted-same =
      let o = long l (lists_accepted l h) in
      let n = counts-fit l.boards l.processes l.channels (counts-accepted l h) in
      let t = table_of l in
      let m = length-placed_by l.version l.processes l.placements l.limits l.instructions in
      let n5 = accepted-number in
      let n6 = further-passed (ends_ok t) 4 _ n5 in
      let n7 = further-passed (inputs_ok t) 5 _ n6 in
      let n8 = further-passed (boards_ok t) 6 _ n7 in
      let e5 = test_passed (ends_ok t) 4 _ n5 in
      let e7 = test_passed (boards_ok t) 6 _ n7 in
      let e8 = test_passed (instructions_ok t) 7 _ n8 in
      let e47 = test_passed (limits_ok t) 46 0 (further-passed (instructions_ok t) 7 _ n8) in
      let codes = all_of_given (λ (x : Placement). all_of small_code x.code) t.processes nowhere
      (λ p k. all_of_weaken (instruction_ok t p (length (code_of t p))) small_code (small_passes t p (length (code_of t p))) (code_of t p)
      (all_below_lem (λ q. all_of (instruction_ok t q (length (code_of t q))) (code_of t q)) (length t.processes) e8 p k)) in
      let ends = ends_same (length t.processes) l.channels l.ends (omega arith) o.ends-long e5 in
      let placements = placements-same l.boards l.version l.processes l.placements l.limits l.instructions n.boards_high o.placements-long o.programs-few e7 in
      let limits = limits-same l.version l.processes l.placements l.limits l.instructions o.limits-long e47 in
      let instructions = instructions-same l.version l.processes l.placements l.limits l.instructions o.instructions-long codes in
      λ i. record {
        version = l.version;
        boards = l.boards;
        processes = l.processes;
        channels = l.channels;
        ends = ends i;
        placements = placements i;
        limits = limits i;
        instructions = instructions i;
      }
