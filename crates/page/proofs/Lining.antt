-- The page's lines: each from its words, and all of them one behind the other.
use mathlib.Core.Path.{◌≡◌, refl, ap, ◌∙◌, subst}
use mathlib.Core.List.{List, [], ◌∷◌, ◌++◌}
use Prim.Native.Nat.{ℕ, suc, ◌+◌, ◌-◌, ◌*◌, ◌^◌, ◌≤◌, ◌<◌}
use native.Mathlib.Omega.{arith}
use lib.ListN.{drop}
use lib.Seq.{get_or-drop, drop-drop}
use Rattle.rules.specs.Bytes.{byte_at, number32}
use Rattle.rules.specs.Moves.{numbered}
use Rattle.rules.specs.Transparency.{read_answers}
use Rattle.rules.specs.Page.{decimal, line, process_text, answer_line, answer_lines, register_at, process_line, process_lines}
use Rattle.page.specs.Put.{Put, answer_at, registers_line, state_line}
use Rattle.page.proofs.Putting.{Going, going_start, going_on, going_end, line_then}

-- ---- a word that is a number

word_then : (n m : ℕ) (next : List ℕ) (words : List (List ℕ)) (out o1 o2 : List ℕ) (at r1 r2 : ℕ) → n ≡ m → Put (decimal n ++ (32 ∷ [])) out at r1 o1
    → Put (line (next ∷ words)) o1 r1 r2 o2 → Put (line (decimal m ∷ next ∷ words)) out at r2 o2
word_then n m next words out o1 o2 at r1 r2 e p q =
    subst (λ (k : ℕ). Put (line (decimal k ∷ next ∷ words)) out at r2 o2) e (line_then (decimal n) next words out o1 o2 at r1 r2 p q)

pub last_word : (n m : ℕ) (out o : List ℕ) (at r : ℕ) → n ≡ m → Put (decimal n ++ (10 ∷ [])) out at r o → Put (line (decimal m ∷ [])) out at r o
last_word n m out o at r e p = subst (λ (k : ℕ). Put (line (decimal k ∷ [])) out at r o) e p

-- four of them
four-words : (n1 n2 n3 n4 m1 m2 m3 m4 : ℕ) (out o1 o2 o3 o4 : List ℕ) (at r1 r2 r3 r4 : ℕ) → n1 ≡ m1 → n2 ≡ m2 → n3 ≡ m3 → n4 ≡ m4
    → Put (decimal n1 ++ (32 ∷ [])) out at r1 o1 → Put (decimal n2 ++ (32 ∷ [])) o1 r1 r2 o2 → Put (decimal n3 ++ (32 ∷ [])) o2 r2 r3 o3
    → Put (decimal n4 ++ (10 ∷ [])) o3 r3 r4 o4 → Put (line (decimal m1 ∷ decimal m2 ∷ decimal m3 ∷ decimal m4 ∷ [])) out at r4 o4
four-words n1 n2 n3 n4 m1 m2 m3 m4 out o1 o2 o3 o4 at r1 r2 r3 r4 e1 e2 e3 e4 p1 p2 p3 p4 =
    word_then n1 m1 (decimal m2) (decimal m3 ∷ decimal m4 ∷ []) out o1 o4 at r1 r4 e1 p1
    (word_then n2 m2 (decimal m3) (decimal m4 ∷ []) o1 o2 o4 r1 r2 r4 e2 p2
    (word_then n3 m3 (decimal m4) [] o2 o3 o4 r2 r3 r4 e3 p3
    (last_word n4 m4 o3 o4 r3 r4 e4 p4)))

-- ---- lines

pub answer_put : (answers : List ℕ) (i n1 n2 n3 n4 : ℕ) (out o1 o2 o3 o4 : List ℕ) (at r1 r2 r3 r4 : ℕ) → n1 ≡ i + 1 → n2 ≡ byte_at answers (6 * i)
    → n3 ≡ byte_at answers (6 * i + 1) → n4 ≡ register_at answers (6 * i + 2)
    → Put (decimal n1 ++ (32 ∷ [])) out at r1 o1 → Put (decimal n2 ++ (32 ∷ [])) o1 r1 r2 o2 → Put (decimal n3 ++ (32 ∷ [])) o2 r2 r3 o3
    → Put (decimal n4 ++ (10 ∷ [])) o3 r3 r4 o4 → Put (answer_line (suc i) (answer_at answers i)) out at r4 o4
answer_put answers i n1 n2 n3 n4 out o1 o2 o3 o4 at r1 r2 r3 r4 e1 e2 e3 e4 p1 p2 p3 p4 =
    four-words n1 n2 n3 n4 (suc i) (byte_at answers (6 * i)) (byte_at answers (6 * i + 1)) (register_at answers (6 * i + 2)) out o1 o2 o3 o4 at r1 r2 r3 r4 (omega arith) e2 e3 e4 p1 p2 p3 p4

pub registers_put : (report : List ℕ) (from n1 n2 n3 n4 : ℕ) (out o1 o2 o3 o4 : List ℕ) (at r1 r2 r3 r4 : ℕ) → n1 ≡ register_at report from
    → n2 ≡ register_at report (from + 4) → n3 ≡ register_at report (from + 8) → n4 ≡ register_at report (from + 12)
    → Put (decimal n1 ++ (32 ∷ [])) out at r1 o1 → Put (decimal n2 ++ (32 ∷ [])) o1 r1 r2 o2 → Put (decimal n3 ++ (32 ∷ [])) o2 r2 r3 o3
    → Put (decimal n4 ++ (10 ∷ [])) o3 r3 r4 o4 → Put (registers_line report from) out at r4 o4
registers_put report from n1 n2 n3 n4 out o1 o2 o3 o4 at r1 r2 r3 r4 e1 e2 e3 e4 p1 p2 p3 p4 =
    four-words n1 n2 n3 n4 (register_at report from) (register_at report (from + 4)) (register_at report (from + 8)) (register_at report (from + 12)) out o1 o2 o3 o4 at r1 r2 r3 r4 e1 e2 e3 e4 p1 p2 p3 p4

pub state_put : (report : List ℕ) (from n1 n2 n3 n4 : ℕ) (out o1 o2 o3 o4 o5 : List ℕ) (at r1 r2 r3 r4 r5 : ℕ) → n1 ≡ byte_at report from
    → n2 ≡ byte_at report (from + 1) → n3 ≡ byte_at report (from + 2) → n4 ≡ byte_at report (from + 3)
    → Put (decimal n1 ++ (32 ∷ [])) out at r1 o1 → Put (decimal n2 ++ (32 ∷ [])) o1 r1 r2 o2 → Put (decimal n3 ++ (32 ∷ [])) o2 r2 r3 o3
    → Put (decimal n4 ++ (32 ∷ [])) o3 r3 r4 o4 → Put (registers_line report (from + 4)) o4 r4 r5 o5 → Put (state_line report from) out at r5 o5
state_put report from n1 n2 n3 n4 out o1 o2 o3 o4 o5 at r1 r2 r3 r4 r5 e1 e2 e3 e4 p1 p2 p3 p4 p5 =
    let i2 : (from + 4) + 4 ≡ from + 8 = omega arith in
    let i3 : (from + 4) + 8 ≡ from + 12 = omega arith in
    let i4 : (from + 4) + 12 ≡ from + 16 = omega arith in
    let register : ℕ → List ℕ = λ k. decimal (register_at report k) in
    let q : Put (line (register (from + 4) ∷ register (from + 8) ∷ register (from + 12) ∷ register (from + 16) ∷ [])) o4 r4 r5 o5 =
    subst (λ (l : List ℕ). Put l o4 r4 r5 o5) (λ j. line (register (from + 4) ∷ register (i2 j) ∷ register (i3 j) ∷ register (i4 j) ∷ [])) p5 in
    let byte : ℕ → List ℕ = λ k. decimal (byte_at report k) in
    let words : List (List ℕ) = register (from + 4) ∷ register (from + 8) ∷ register (from + 12) ∷ register (from + 16) ∷ [] in
    word_then n1 (byte_at report from) (byte (from + 1)) (byte (from + 2) ∷ byte (from + 3) ∷ words) out o1 o5 at r1 r5 e1 p1
    (word_then n2 (byte_at report (from + 1)) (byte (from + 2)) (byte (from + 3) ∷ words) o1 o2 o5 r1 r2 r5 e2 p2
    (word_then n3 (byte_at report (from + 2)) (byte (from + 3)) words o2 o3 o5 r2 r3 r5 e3 p3
    (word_then n4 (byte_at report (from + 3)) (register (from + 4)) (register (from + 8) ∷ register (from + 12) ∷ register (from + 16) ∷ []) o3 o4 o5 r3 r4 r5 e4 p4 q)))

pub process_put : (report : List ℕ) (p n : ℕ) (out o1 o2 o3 : List ℕ) (at r1 r2 r3 : ℕ) → n ≡ p → Put (process_text ++ (32 ∷ [])) out at r1 o1
    → Put (decimal n ++ (32 ∷ [])) o1 r1 r2 o2 → Put (state_line report (20 * p)) o2 r2 r3 o3 → Put (process_line p report (20 * p)) out at r3 o3
process_put report p n out o1 o2 o3 at r1 r2 r3 e p1 p2 p3 =
    let byte : ℕ → List ℕ = λ k. decimal (byte_at report k) in
    let register : ℕ → List ℕ = λ k. decimal (register_at report k) in
    let from : ℕ = 20 * p in
    let words : List (List ℕ) =
    byte (from + 1) ∷ byte (from + 2) ∷ byte (from + 3) ∷ register (from + 4) ∷ register (from + 8) ∷ register (from + 12) ∷ register (from + 16) ∷ [] in
    line_then process_text (decimal p) (byte from ∷ words) out o1 o3 at r1 r3 p1 (word_then n p (byte from) words o1 o2 o3 r1 r2 r3 e p2 p3)

-- ---- all answers

-- the lines from answer i on
abbrev pub answers_from : ℕ → List ℕ → ℕ → List ℕ
answers_from records answers i = answer_lines (suc i) (read_answers (records - i) (drop (6 * i) answers))

answers-more : (records : ℕ) (answers : List ℕ) (i : ℕ) → i < records
    → answers_from records answers i ≡ answer_line (suc i) (answer_at answers i) ++ answers_from records answers (i + 1)
answers-more records answers i h =
    let m : ℕ = records - (i + 1) in
    let e : records - i ≡ suc m = omega arith in
    let at : (k j : ℕ) → 6 * i + k ≡ j → byte_at (drop (6 * i) answers) k ≡ byte_at answers j =
    λ k j f. get_or-drop (6 * i) answers k 0 ∙ ap (λ (x : ℕ). byte_at answers x) f in
    let b0 = at 0 (6 * i) (omega arith) in
    let b1 = at 1 (6 * i + 1) refl in
    let b2 = at 2 (6 * i + 2) refl in
    let b3 = at 3 (6 * i + 2 + 1) (omega arith) in
    let b4 = at 4 (6 * i + 2 + 2) (omega arith) in
    let b5 = at 5 (6 * i + 2 + 3) (omega arith) in
    let f : 6 * i + 6 ≡ 6 * (i + 1) = omega arith in
    let d : drop 6 (drop (6 * i) answers) ≡ drop (6 * (i + 1)) answers = drop-drop 6 (6 * i) answers ∙ ap (λ (k : ℕ). drop k answers) f in
    let s : suc (suc i) ≡ suc (i + 1) = omega arith in
    ap (λ (k : ℕ). answer_lines (suc i) (read_answers k (drop (6 * i) answers))) e
    ∙ (λ j. answer_line (suc i) (numbered (b0 j) (b1 j) (number32 (b2 j) (b3 j) (b4 j) (b5 j))) ++ answer_lines (s j) (read_answers m (d j)))

pub answers_start : (records : ℕ) (answers out : List ℕ) (at : ℕ) → at < 2 ^ 64
    → Going (answer_lines 1 (read_answers records answers)) out at (answers_from records answers 0) out at
answers_start records answers out at h =
    let e : records - 0 ≡ records = omega arith in
    subst (λ (k : ℕ). Going (answer_lines 1 (read_answers k answers)) out at (answers_from records answers 0) out at) e (going_start _ _ _ (omega arith))

pub answers_on : (records : ℕ) (answers out₀ out o1 : List ℕ) (at₀ at i r1 : ℕ) → Going (answer_lines 1 (read_answers records answers)) out₀ at₀ (answers_from records answers i) out at
    → i < records → Put (answer_line (suc i) (answer_at answers i)) out at r1 o1
    → Going (answer_lines 1 (read_answers records answers)) out₀ at₀ (answers_from records answers (i + 1)) o1 r1
answers_on records answers out₀ out o1 at₀ at i r1 g h p = going_on _ _ _ (answer_line (suc i) (answer_at answers i)) (answers_from records answers i) (answers_from records answers (i + 1)) out o1 at r1 g (answers-more records answers i h) p

pub answers-end : (records : ℕ) (answers out₀ out : List ℕ) (at₀ at i : ℕ) → Going (answer_lines 1 (read_answers records answers)) out₀ at₀ (answers_from records answers i) out at
    → records ≤ i → Put (answer_lines 1 (read_answers records answers)) out₀ at₀ at out
answers-end records answers out₀ out at₀ at i g h =
    let e : records - i ≡ 0 = omega arith in
    going_end _ _ _ (answers_from records answers i) out at g (ap (λ (k : ℕ). answer_lines (suc i) (read_answers k (drop (6 * i) answers))) e)

-- ---- all processes

-- the lines from process p on
abbrev pub processes_from : ℕ → List ℕ → ℕ → List ℕ
processes_from processes report p = process_lines p (processes - p) report

processes-more : (processes : ℕ) (report : List ℕ) (p : ℕ) → p < processes
    → processes_from processes report p ≡ process_line p report (20 * p) ++ processes_from processes report (p + 1)
processes-more processes report p h =
    let m : ℕ = processes - (p + 1) in
    let e : processes - p ≡ suc m = omega arith in
    let s : suc p ≡ p + 1 = omega arith in
    ap (λ (k : ℕ). process_lines p k report) e ∙ ap (λ (k : ℕ). process_line p report (20 * p) ++ process_lines k m report) s

pub processes_start : (processes : ℕ) (report out : List ℕ) (at : ℕ) → at < 2 ^ 64
    → Going (process_lines 0 processes report) out at (processes_from processes report 0) out at
processes_start processes report out at h =
    let e : processes - 0 ≡ processes = omega arith in
    subst (λ (k : ℕ). Going (process_lines 0 k report) out at (processes_from processes report 0) out at) e (going_start _ _ _ (omega arith))

pub processes_on : (processes : ℕ) (report out₀ out o1 : List ℕ) (at₀ at p r1 : ℕ) → Going (process_lines 0 processes report) out₀ at₀ (processes_from processes report p) out at
    → p < processes → Put (process_line p report (20 * p)) out at r1 o1 → Going (process_lines 0 processes report) out₀ at₀ (processes_from processes report (p + 1)) o1 r1
processes_on processes report out₀ out o1 at₀ at p r1 g h q = going_on _ _ _ (process_line p report (20 * p)) (processes_from processes report p) (processes_from processes report (p + 1)) out o1 at r1 g (processes-more processes report p h) q

pub processes-end : (processes : ℕ) (report out₀ out : List ℕ) (at₀ at p : ℕ) → Going (process_lines 0 processes report) out₀ at₀ (processes_from processes report p) out at
    → processes ≤ p → Put (process_lines 0 processes report) out₀ at₀ at out
processes-end processes report out₀ out at₀ at p g h =
    let e : processes - p ≡ 0 = omega arith in
    going_end _ _ _ (processes_from processes report p) out at g (ap (λ (k : ℕ). process_lines p k report) e)
