-- W-213: the three counts of a sweep together, and what its runs share.
use mathlib.Core.Path.{◌≡◌, refl, ap, ◌∙◌}
use mathlib.Core.Bool.{Bool, true, false, cond}
use mathlib.Core.List.{List, [], ◌∷◌}
use Prim.Native.Nat.{ℕ, zero, suc, ◌+◌, ◌*◌, ◌<◌}
use native.Mathlib.Omega.{arith}
use native.Mathlib.Nat.{suc-mul}
use lib.Dec.{eqb}
use lib.ListN.{length, get_or, take, drop}
use lib.Seq.{take-suc}
use borrow.Author.Tests.{eqb-true}
use Rattle.facts.specs.Tests.{or_left, or_right}
use Rattle.facts.specs.Counts.{cond_more}
use Rattle.facts.specs.Bits.{count_below}
use Rattle.facts.specs.Sums.{sum_below}
use Rattle.rules.specs.Table.{Table}
use Rattle.rules.specs.Cabinet.{started}
use Rattle.rules.specs.Moves.{Command, turn, Outcomes, run_from}
use Rattle.rules.specs.Undo.{is_undo, any_undo}
use Rattle.rules.specs.Transparent.{finished}
use Rattle.rules.specs.Sweep.{crash_of, pulled_at, Ending, quiet_end, held_end, free_end, ending_of, ending_at, is_quiet, is_held, is_free}
use Rattle.rules.specs.Sweep.{count_of, Swept, swept_of, is_barred, any_barred, validate_sweep, sweep}
use Rattle.rules.specs.Format.{decode_table}
use Rattle.rules.specs.Schedule.{decode_schedule}
use Rattle.rules.proofs.Recovery.{run-parts, one_more}
use Rattle.rules.proofs.Standing.{ended-forward}

-- ---- "the three together make (n + 1) × B"

one_of_three : (e : Ending) → cond (is_quiet e) 1 0 + (cond (is_held e) 1 0 + cond (is_free e) 1 0) ≡ 1
one_of_three quiet_end = omega arith
one_of_three held_end = omega arith
one_of_three free_end = omega arith

-- of one place
place_counts : (f : ℕ → Ending) (boards : ℕ) → count_below (λ b. is_quiet (f b)) boards + (count_below (λ b. is_held (f b)) boards + count_below (λ b. is_free (f b)) boards) ≡ boards
place_counts f zero = omega arith
place_counts f (suc n) =
    let h = place_counts f n in
    let one = one_of_three (f n) in
    let a = cond_more (is_quiet (f n)) (count_below (λ b. is_quiet (f b)) n) in
    let b = cond_more (is_held (f n)) (count_below (λ b. is_held (f b)) n) in
    let c = cond_more (is_free (f n)) (count_below (λ b. is_free (f b)) n) in
    omega arith

-- of all places
sums_together : (f g h : ℕ → ℕ) (k n : ℕ) → ((i : ℕ) → f i + (g i + h i) ≡ k) → sum_below f n + (sum_below g n + sum_below h n) ≡ n * k
sums_together f g h k zero each = omega arith
sums_together f g h k (suc n) each =
    let rest = sums_together f g h k n each in
    let one = each n in
    let e = suc-mul n k in
    omega arith

pub three-together : (t : Table) (commands : List Command)
    → count_of is_quiet t commands + (count_of is_held t commands + count_of is_free t commands) ≡ suc (length commands) * t.boards
unfolding count_of
three-together t commands =
    sums_together (λ place. count_below (λ b. is_quiet (ending_at t commands place b)) t.boards) (λ place. count_below (λ b. is_held (ending_at t commands place b)) t.boards)
    (λ place. count_below (λ b. is_free (ending_at t commands place b)) t.boards) t.boards (suc (length commands)) (λ place. place_counts (ending_at t commands place) t.boards)

-- ---- what the runs share

no_undo : (commands : List Command) → any_barred commands ≡ false → any_undo commands ≡ false
no_undo [] h = refl
no_undo (r ∷ rs) h =
    let one = or_left (is_barred r) (any_barred rs) h in
    rw (or_right (eqb r.move 5) (is_undo r) one) (no_undo rs (or_right (is_barred r) (any_barred rs) h))

pulled_forward : (commands : List Command) (place b : ℕ) → any_undo commands ≡ false → any_undo (pulled_at commands place b) ≡ false
pulled_forward commands zero b h = h
pulled_forward [] (suc place) b h = refl
pulled_forward (r ∷ rs) (suc place) b h =
    rw (or_left (is_undo r) (any_undo rs) h) (pulled_forward rs place b (or_right (is_undo r) (any_undo rs) h))

-- the run with the crash at one place goes on from the cabinet that the records before it leave, which is the same for all boards
pub pulled_ends : (t : Table) (commands : List Command) (place b : ℕ) → any_barred commands ≡ false
    → ending_at t commands place b ≡ ending_of t (run_from t (turn t (finished t (take place commands)) (crash_of b)).cabinet (drop place commands)).cabinet
unfolding ending_at run_from
pulled_ends t commands place b h =
    ap (ending_of t)
    (ended-forward t (pulled_at commands place b) (pulled_forward commands place b (no_undo commands h))
    ∙ ap (λ (x : Outcomes). x.cabinet) (run-parts t (started t) (take place commands) (crash_of b ∷ drop place commands)))

-- and those records are one more at each place
pub next_place : (t : Table) (commands : List Command) (place : ℕ) (d : Command) → place < length commands
    → finished t (take (suc place) commands) ≡ (turn t (finished t (take place commands)) (get_or commands place d)).cabinet
next_place t commands place d h = rw (take-suc commands place d h) (one_more t (started t) (take place commands) (get_or commands place d))

-- ---- the call

swept-number : (n : ℕ) (x : Swept) → x.number ≡ 0 → (cond (eqb n 0) x (swept_of n 0 0 0)).number ≡ 0 → n ≡ 0
swept-number n x e h = go (eqb n 0) refl h
  where
    go : (b : Bool) → eqb n 0 ≡ b → (cond b x (swept_of n 0 0 0)).number ≡ 0 → n ≡ 0
    go true f k = eqb-true n 0 f
    go false f k = k

-- "the three together make (n + 1) × B"
pub swept-together : (table schedule : List ℕ) → (sweep table schedule).number ≡ 0
    → (sweep table schedule).quiet + ((sweep table schedule).held + (sweep table schedule).free) ≡ suc (length (decode_schedule schedule)) * (decode_table table).boards
unfolding sweep
swept-together table schedule h =
    let t = decode_table table in
    let commands = decode_schedule schedule in
    rw (swept-number (validate_sweep table schedule) (swept_of 0 (count_of is_quiet t commands) (count_of is_held t commands) (count_of is_free t commands)) refl h) (three-together t commands)
