-- Neither program does nine instructions in a row without a take: after a take at most four others come before the next.
use mathlib.Core.Path.{◌≡◌, refl, subst}
use mathlib.Core.Bool.{Bool, true, false, cond}
use mathlib.Core.Option.{some}
use mathlib.Core.List.{List, [], ◌∷◌, ◌++◌}
use Prim.Native.Nat.{ℕ, zero, suc, ◌^◌, ◌≤◌, ◌<◌}
use native.Mathlib.Omega.{arith}
use lib.Dec.{eqb, ltb}
use lib.ListN.{length, get_or}
use borrow.Author.Tests.{le-ltb}
use Rattle.facts.specs.Tests.{no_way}
use Rattle.rules.specs.Machine.{booted, Act, internal, took, sent, local_step}
use Rattle.rules.specs.Reference.{Reference, Action, inject, step, act, and_then, reference_start, reference_run}
use Rattle.label_line.specs.Line.{line_table}
use Rattle.label_line.specs.Spaced.{done, done_by, instructions_of, is_take, has_take, TakesOften}
use Rattle.label_line.proofs.Phases.{numbering_left, printing_left, Line, state_of, Lines}
use Rattle.label_line.proofs.Turns.{left_most, Spends, Spending, fed_next, Turn, no_turn, turned, turn}
use Rattle.label_line.proofs.Plain.{start_line, start_is, start_lines}

-- ---- instructions with a take among any few

-- at most n others before the first take, and at most `left_most` after each
data Spaced : ℕ → List Act → Type 0 where
  stop : {n : ℕ} → Spaced n []
  takes : {n m : ℕ} {k : Act} {ks : List Act} → is_take k ≡ true → m ≤ left_most → Spaced m ks → Spaced n (k ∷ ks)
  other : {n : ℕ} {k : Act} {ks : List Act} → is_take k ≡ false → Spaced n ks → Spaced (suc n) (k ∷ ks)

-- so from any place on
record Rest (ks : List Act) : Type 0 where
  left : ℕ
  few : left ≤ left_most
  spaced : Spaced left ks

rest : (n : ℕ) (before ks : List Act) → n ≤ left_most → Spaced n (before ++ ks) → Rest ks
rest n [] ks h s = record { left = n; few = h; spaced = s }
rest n (k ∷ before) ks h (takes {m = m} t few s) = rest m before ks few s
rest n (k ∷ before) ks h (other {n = m} t s) = rest m before ks (omega arith) s

-- with no take among them they are at most as many as are left
without-take : (n : ℕ) (ks after : List Act) → Spaced n (ks ++ after) → has_take ks ≡ false → length ks ≤ n
unfolding has_take
without-take n [] after s h = omega arith
without-take n (k ∷ ks) after (takes t few s) h = absurd (no_way (cc))
without-take n (k ∷ ks) after (other {n = m} t s) h =
    let l = without-take m ks after s (rw t at h) in omega arith

has_take_lem : (n : ℕ) (before nine after : List Act) → n ≤ left_most → Spaced n (before ++ (nine ++ after)) → length nine ≡ 9 → has_take nine ≡ true
has_take_lem n before nine after h s e =
    let r = rest n before (nine ++ after) h s in go r.left r.few r.spaced (has_take nine) refl
  where
    go : (m : ℕ) → m ≤ left_most → Spaced m (nine ++ after) → (b : Bool) → has_take nine ≡ b → has_take nine ≡ true
    go m few s true g = g
    go m few s false g = let l = without-take m nine after s g in absurd (omega arith)

-- ---- the two programs

spaced_on : (ks rest : List Act) (before after : ℕ) → Spends ks before after → Spaced after rest → Spaced before (ks ++ rest)
spaced_on [] rest before after h s = rw h s
spaced_on (internal ∷ ks) rest before after h s = rw (h.0, h.1) (other refl s)
spaced_on (took x ∷ ks) rest before after h s = rw h.1 (takes refl h.0 s)
spaced_on (sent x ∷ ks) rest before after h s = rw (h.0, h.1) (other refl s)

-- process p, with so many instructions left before its next take
module _ (first : ℕ) (small : first < 2 ^ 32) (p : ℕ) (left : Line → ℕ)
    (spends : (a b : Line) (x : Action) → Spending first a x b → Spends (done_by (line_table first) p (state_of first a) x) (left a) (left b)) where
  spaced : (l : List Action) (fed : List ℕ) (a : Line) → Lines first fed a → (e : Reference)
      → reference_run (line_table first) (state_of first a) l ≡ some e → Spaced (left a) (instructions_of (line_table first) p (state_of first a) l)
  unfolding instructions_of reference_run
  spaced [] fed a h e r = stop
  spaced (x ∷ l) fed a h e r = go (spaced l (fed_next fed x)) (turn first small fed x a h) r
    where
      go : ((b : Line) → Lines first (fed_next fed x) b → (e : Reference) → reference_run (line_table first) (state_of first b) l ≡ some e
          → Spaced (left b) (instructions_of (line_table first) p (state_of first b) l))
          → Turn first fed a x → and_then (act (line_table first) (state_of first a) x) (λ s. reference_run (line_table first) s l) ≡ some e
          → Spaced (left a) (instructions_of (line_table first) p (state_of first a) (x ∷ l))
      go ih (no_turn n) r = absurd (no_way (let z = rw n at r in cc))
      go ih (turned b is lines s) r =
          rw is
          (spaced_on (done_by (line_table first) p (state_of first a) x) (instructions_of (line_table first) p (state_of first b) l) (left a) (left b)
          (spends a b x s) (ih b lines e (rw is at r)))

  often : (l : List Action) (e : Reference) → reference_run (line_table first) (reference_start (line_table first)) l ≡ some e → left start_line ≤ left_most
      → (before nine after : List Act) → instructions_of (line_table first) p (reference_start (line_table first)) l ≡ before ++ (nine ++ after)
      → length nine ≡ 9 → has_take nine ≡ true
  often l e r few before nine after is many =
      has_take_lem (left start_line) before nine after few
      (subst (Spaced (left start_line)) (rw (start_is first) at is) (spaced l [] start_line (start_lines first) e (rw (start_is first) at r))) many

-- no other process does anything
idle : (first p : ℕ) (s : Reference) (x : Action) → done_by (line_table first) (suc (suc p)) s x ≡ []
unfolding done_by local_step
idle first p s (inject x) = refl
idle first p s (step q) = go (eqb q (suc (suc p))) (le-ltb (get_or s.machines (suc (suc p)) booted).pc 0 (omega arith))
  where
    go : (b : Bool) → ltb (get_or s.machines (suc (suc p)) booted).pc 0 ≡ false
        → cond b (done (local_step [] (get_or s.machines (suc (suc p)) booted))) [] ≡ []
    go true e = rw e
    go false e = refl

often_all : (first : ℕ) → first < 2 ^ 32 → (l : List Action) (e : Reference) → reference_run (line_table first) (reference_start (line_table first)) l ≡ some e
    → (p : ℕ) (before nine after : List Act) → instructions_of (line_table first) p (reference_start (line_table first)) l ≡ before ++ (nine ++ after)
    → length nine ≡ 9 → has_take nine ≡ true
often_all first small l e r zero = often first small 0 (λ a. numbering_left a.numbering) (λ a b x s. s.numbering) l e r (omega arith)
often_all first small l e r (suc zero) = often first small 1 (λ a. printing_left a.printing) (λ a b x s. s.printing) l e r (omega arith)
often_all first small l e r (suc (suc p)) =
    often first small (suc (suc p)) (λ _. 0) (λ a b x s. rw (idle first p (state_of first a) x) refl) l e r (omega arith)

pub takes_often : (first : ℕ) → first < 2 ^ 32 → TakesOften (line_table first)
takes_often first small = record { within_nine = often_all first small }
