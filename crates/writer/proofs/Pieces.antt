-- The next piece of what is laid out, and what is left behind it: of a program, of the records.
use mathlib.Core.Path.{◌≡◌, refl, ap, sym, ◌∙◌}
use mathlib.Core.Bool.{Bool, true, false, cond}
use mathlib.Core.List.{List, [], ◌∷◌, ◌++◌, map}
use Prim.Native.Nat.{ℕ, zero, suc, ◌+◌, ◌-◌, ◌*◌, ◌≤◌, ◌<◌}
use native.Mathlib.Omega.{arith}
use lib.ListN.{length, get_or, drop, set, get_or-map}
use lib.Seq.{sets, drop-drop, get_or-drop}
use borrow.Author.Tests.{lt-ltb, eq-eqb, ne_eqb}
use Rattle.facts.specs.Laying.{one_fewer, three_put}
use Rattle.records.proofs.Writing.{four_put}
use Rattle.rules.specs.Sizes.{with_limits, limit_bytes, record_head}
use Rattle.rules.specs.Encode.{Lists, instruction_bytes, program_bytes, if_limits, records_for, program_lengths}
use Rattle.writer.specs.Fitted.{fit_byte, fit_threes, head_for}

pub fit_same : (x : ℕ) → x < 256 → fit_byte x ≡ x
fit_same x h = rw (lt-ltb x 256 h)

-- ---- instructions

pub fit_threes_0 : (l : List ℕ) → get_or (fit_threes l) 0 0 ≡ fit_byte (get_or l 0 0)
fit_threes_0 [] = refl
fit_threes_0 (c ∷ []) = refl
fit_threes_0 (c ∷ a ∷ []) = refl
fit_threes_0 (c ∷ a ∷ o ∷ l) = refl

pub fit_threes_1 : (l : List ℕ) → get_or (fit_threes l) 1 0 ≡ fit_byte (get_or l 1 0)
fit_threes_1 [] = refl
fit_threes_1 (c ∷ []) = refl
fit_threes_1 (c ∷ a ∷ []) = refl
fit_threes_1 (c ∷ a ∷ o ∷ l) = refl

pub fit_threes_2 : (l : List ℕ) → get_or (fit_threes l) 2 0 ≡ get_or l 2 0
fit_threes_2 [] = refl
fit_threes_2 (c ∷ []) = refl
fit_threes_2 (c ∷ a ∷ []) = refl
fit_threes_2 (c ∷ a ∷ o ∷ l) = refl

pub fit_threes_drop3 : (l : List ℕ) → drop 3 (fit_threes l) ≡ fit_threes (drop 3 l)
fit_threes_drop3 [] = refl
fit_threes_drop3 (c ∷ []) = refl
fit_threes_drop3 (c ∷ a ∷ []) = refl
fit_threes_drop3 (c ∷ a ∷ o ∷ l) = refl

pub fit_threes-drop : (m : ℕ) (l : List ℕ) → drop (3 * m) (fit_threes l) ≡ fit_threes (drop (3 * m) l)
fit_threes-drop zero l = refl
fit_threes-drop (suc m) l =
    let e : 3 * suc m ≡ 3 + 3 * m = omega arith in
    ap (λ (n : ℕ). drop n (fit_threes l)) e ∙ sym (drop-drop (3 * m) 3 (fit_threes l)) ∙ ap (drop (3 * m)) (fit_threes_drop3 l) ∙ fit_threes-drop m (drop 3 l)
    ∙ ap fit_threes (drop-drop (3 * m) 3 l ∙ ap (λ (n : ℕ). drop n l) (sym e))

pub program_next : (is : List ℕ) (i n k : ℕ) → k < n
    → program_bytes (n - k) (drop (3 * (i + k)) (fit_threes is))
    ≡ instruction_bytes (fit_byte (get_or is (3 * (i + k)) 0)) (fit_byte (get_or is (3 * (i + k) + 1) 0)) (get_or is (3 * (i + k) + 2) 0)
    ++ program_bytes (n - (k + 1)) (drop (3 * (i + (k + 1))) (fit_threes is))
program_next is i n k h =
    let m = 3 * (i + k) in
    let d = drop m (fit_threes is) in
    let same : d ≡ fit_threes (drop m is) = fit_threes-drop (i + k) is in
    let x0 : get_or d 0 0 ≡ fit_byte (get_or is m 0) =
    ap (λ (l : List ℕ). get_or l 0 0) same ∙ fit_threes_0 (drop m is) ∙ ap fit_byte (get_or-drop m is 0 0 ∙ ap (λ (j : ℕ). get_or is j 0) (let z : m + 0 ≡ m = omega arith in z)) in
    let x1 : get_or d 1 0 ≡ fit_byte (get_or is (m + 1) 0) = ap (λ (l : List ℕ). get_or l 1 0) same ∙ fit_threes_1 (drop m is) ∙ ap fit_byte (get_or-drop m is 1 0) in
    let x2 : get_or d 2 0 ≡ get_or is (m + 2) 0 = ap (λ (l : List ℕ). get_or l 2 0) same ∙ fit_threes_2 (drop m is) ∙ get_or-drop m is 2 0 in
    let later : drop 3 d ≡ drop (3 * (i + (k + 1))) (fit_threes is) = drop-drop 3 m (fit_threes is) ∙ ap (λ (j : ℕ). drop j (fit_threes is)) (let z : m + 3 ≡ 3 * (i + (k + 1)) = omega arith in z) in
    ap (λ (c : ℕ). program_bytes c d) (one_fewer n k h)
    ∙ (λ j. instruction_bytes (x0 j) (x1 j) (x2 j) ++ program_bytes (n - (k + 1)) (later j))

-- ---- records from lists

pub lengths_next : (ps : List ℕ) (n p : ℕ) → p < n
    → program_lengths (n - p) (drop (3 * p) ps) ≡ get_or ps (3 * p + 2) 0 ∷ program_lengths (n - (p + 1)) (drop (3 * (p + 1)) ps)
lengths_next ps n p h =
    let x : get_or (drop (3 * p) ps) 2 0 ≡ get_or ps (3 * p + 2) 0 = get_or-drop (3 * p) ps 2 0 in
    let later : drop 3 (drop (3 * p) ps) ≡ drop (3 * (p + 1)) ps = drop-drop 3 (3 * p) ps ∙ ap (λ (j : ℕ). drop j ps) (let z : 3 * p + 3 ≡ 3 * (p + 1) = omega arith in z) in
    ap (λ (c : ℕ). program_lengths c (drop (3 * p) ps)) (one_fewer n p h)
    ∙ (λ j. x j ∷ program_lengths (n - (p + 1)) (later j))

-- number i of fitted placements, seen from number at on
fitted_at : (ps : List ℕ) (at i : ℕ) → get_or (drop at (map fit_byte ps)) i 0 ≡ fit_byte (get_or ps (at + i) 0)
fitted_at ps at i = get_or-drop at (map fit_byte ps) i 0 ∙ get_or-map fit_byte ps (at + i) 0

-- the limit of process p, where the version has limits, and those behind it
limit-next : (v : ℕ) (ls : List ℕ) (p : ℕ) → if_limits v (get_or (drop (limit_bytes v * p) (map fit_byte ls)) 0 0) ≡ if_limits v (fit_byte (get_or ls p 0))
limit-next v ls p = go (with_limits v)
  where
    go : (w : Bool) → cond w (get_or (drop (cond w 1 0 * p) (map fit_byte ls)) 0 0 ∷ []) [] ≡ cond w (fit_byte (get_or ls p 0) ∷ []) []
    go true = ap (λ (x : ℕ). x ∷ []) (fitted_at ls (1 * p) 0 ∙ ap (λ (j : ℕ). fit_byte (get_or ls j 0)) (let z : 1 * p + 0 ≡ p = omega arith in z))
    go false = refl

pub one_more-limit : (v p : ℕ) → limit_bytes v * p + limit_bytes v ≡ limit_bytes v * (p + 1)
one_more-limit v p = go (with_limits v)
  where
    go : (w : Bool) → cond w 1 0 * p + cond w 1 0 ≡ cond w 1 0 * (p + 1)
    go true = omega arith
    go false = omega arith

-- what follows a record's first bytes
head_first : (v x n : ℕ) (l : List ℕ) → (if_limits v x ++ (n ∷ [])) ++ l ≡ if_limits v x ++ (n ∷ l)
head_first v x n l = go (with_limits v)
  where
    go : (w : Bool) → (cond w (x ∷ []) [] ++ (n ∷ [])) ++ l ≡ cond w (x ∷ []) [] ++ (n ∷ l)
    go true = refl
    go false = refl

pub length-head_for : (l : Lists) (p : ℕ) → length (head_for l p) ≡ record_head l.version
length-head_for l p = go (with_limits l.version)
  where
    go : (w : Bool) → suc (suc (length (cond w (fit_byte (get_or l.limits p 0) ∷ []) [] ++ (fit_byte (get_or l.placements (3 * p + 2) 0) ∷ [])))) ≡ 1 + (2 + cond w 1 0)
    go true = refl
    go false = refl

pub record_next : (l : Lists) (n p i : ℕ) → p < n → get_or l.placements (3 * p + 2) 0 ≤ 64
    → records_for l.version (n - p) (drop (3 * p) (map fit_byte l.placements)) (drop (limit_bytes l.version * p) (map fit_byte l.limits)) (drop (3 * i) (fit_threes l.instructions))
    ≡ head_for l p
    ++ (program_bytes (get_or l.placements (3 * p + 2) 0) (drop (3 * i) (fit_threes l.instructions))
    ++ records_for l.version (n - (p + 1)) (drop (3 * (p + 1)) (map fit_byte l.placements)) (drop (limit_bytes l.version * (p + 1)) (map fit_byte l.limits))
    (drop (3 * (i + get_or l.placements (3 * p + 2) 0)) (fit_threes l.instructions)))
record_next l n p i h few =
    let m = get_or l.placements (3 * p + 2) 0 in
    let d = drop (3 * p) (map fit_byte l.placements) in
    let limits = drop (limit_bytes l.version * p) (map fit_byte l.limits) in
    let code = drop (3 * i) (fit_threes l.instructions) in
    let x0 : get_or d 0 0 ≡ fit_byte (get_or l.placements (3 * p) 0) = fitted_at l.placements (3 * p) 0 ∙ ap (λ (j : ℕ). fit_byte (get_or l.placements j 0)) (let z : 3 * p + 0 ≡ 3 * p = omega arith in z) in
    let x1 : get_or d 1 0 ≡ fit_byte (get_or l.placements (3 * p + 1) 0) = fitted_at l.placements (3 * p) 1 in
    let x2 : get_or d 2 0 ≡ fit_byte m = fitted_at l.placements (3 * p) 2 in
    let same : get_or d 2 0 ≡ m = x2 ∙ fit_same m (omega arith) in
    let later : drop 3 d ≡ drop (3 * (p + 1)) (map fit_byte l.placements) = drop-drop 3 (3 * p) (map fit_byte l.placements) ∙ ap (λ (j : ℕ). drop j (map fit_byte l.placements)) (let z : 3 * p + 3 ≡ 3 * (p + 1) = omega arith in z) in
    let later-limits : drop (limit_bytes l.version) limits ≡ drop (limit_bytes l.version * (p + 1)) (map fit_byte l.limits) =
    drop-drop (limit_bytes l.version) (limit_bytes l.version * p) (map fit_byte l.limits) ∙ ap (λ (j : ℕ). drop j (map fit_byte l.limits)) (one_more-limit l.version p) in
    let behind : drop (3 * get_or d 2 0) code ≡ drop (3 * (i + m)) (fit_threes l.instructions) =
    ap (λ (j : ℕ). drop (3 * j) code) same ∙ drop-drop (3 * m) (3 * i) (fit_threes l.instructions) ∙ ap (λ (j : ℕ). drop j (fit_threes l.instructions)) (let z : 3 * i + 3 * m ≡ 3 * (i + m) = omega arith in z) in
    let others = program_bytes m code ++ records_for l.version (n - (p + 1)) (drop (3 * (p + 1)) (map fit_byte l.placements)) (drop (limit_bytes l.version * (p + 1)) (map fit_byte l.limits)) (drop (3 * (i + m)) (fit_threes l.instructions)) in
    ap (λ (c : ℕ). records_for l.version c d limits code) (one_fewer n p h)
    ∙ (λ j. x0 j ∷ x1 j ∷ limit-next l.version l.limits p j ++ (x2 j ∷ program_bytes (same j) code ++ records_for l.version (n - (p + 1)) (later j) (later-limits j) (behind j)))
    ∙ (λ j. fit_byte (get_or l.placements (3 * p) 0) ∷ fit_byte (get_or l.placements (3 * p + 1) 0) ∷ sym (head_first l.version (fit_byte (get_or l.limits p 0)) (fit_byte m) others) j)

-- the first bytes of process p's record, with its limit and without
module _ (l : List ℕ) (at : ℕ) (s : Lists) (p last x y z n : ℕ) (i : last ≡ at + record_head s.version - 1) (e0 : x ≡ fit_byte (get_or s.placements (3 * p) 0))
    (e1 : y ≡ fit_byte (get_or s.placements (3 * p + 1) 0)) (e3 : n ≡ fit_byte (get_or s.placements (3 * p + 2) 0)) where
  abbrev by_limits : Bool → List ℕ
  by_limits b = sets l at (fit_byte (get_or s.placements (3 * p) 0) ∷ fit_byte (get_or s.placements (3 * p + 1) 0)
      ∷ cond b (fit_byte (get_or s.limits p 0) ∷ []) [] ++ (fit_byte (get_or s.placements (3 * p + 2) 0) ∷ []))

  pub limited_put : s.version ≡ 2 → z ≡ fit_byte (get_or s.limits p 0) → set (set (set (set l at x) (at + 1) y) (at + 2) z) last n ≡ sets l at (head_for s p)
  limited_put v e2 =
      let k = eq-eqb s.version 2 v in
      let a = ap (λ (b : Bool). 1 + (2 + cond b 1 0)) k in
      let j : last ≡ at + 3 = omega arith in
      ap (λ (m : ℕ). set (set (set (set l at x) (at + 1) y) (at + 2) z) m n) j ∙ four_put l at _ _ _ _ x y z n e0 e1 e2 e3 ∙ ap by_limits (sym k)

  pub unlimited_put : (s.version ≡ 2 → ⊥) → set (set (set l at x) (at + 1) y) last n ≡ sets l at (head_for s p)
  unlimited_put v =
      let k = ne_eqb s.version 2 v in
      let a = ap (λ (b : Bool). 1 + (2 + cond b 1 0)) k in
      let j : last ≡ at + 2 = omega arith in
      ap (λ (m : ℕ). set (set (set l at x) (at + 1) y) m n) j ∙ three_put l at _ _ _ x y n e0 e1 e3 ∙ ap by_limits (sym k)
