-- The counts of a loop: one run more, one place more, and that none grows large.
use mathlib.Core.Path.{◌≡◌, ap₂, ◌∙◌}
use mathlib.Core.Bool.{Bool, true, false, cond}
use mathlib.Core.List.{List}
use Prim.Native.Nat.{ℕ, zero, suc, ◌+◌, ◌*◌, ◌≤◌, ◌<◌}
use native.Mathlib.Omega.{arith}
use native.Mathlib.Numerals.{add-one}
use Rattle.facts.specs.Counts.{cond_more}
use Rattle.facts.specs.Bits.{count_below}
use Rattle.facts.specs.Sums.{sum_below}
use Rattle.rules.specs.Table.{Table}
use Rattle.rules.specs.Moves.{Command}
use Rattle.rules.specs.Sweep.{Ending, is_quiet, is_held, is_free, ending_at}
use Rattle.rules.specs.Format.{decode_table}
use Rattle.rules.specs.Schedule.{commands_in, decode_schedule}
use Rattle.rules.proofs.Valid.{decoded_accepted}
use Rattle.plan.specs.declared.Counts.{Counts}
use Rattle.sweep.specs.Counted.{Counted, count_one, count_boards, count_places, Admitted}
use Rattle.sweep.specs.declared.tally.Tally.{Tally}
use Rattle.sweep.proofs.Admitting.{table-sound, records-few}

abbrev pub tallied : ℕ → ℕ → ℕ → Tally
tallied quiet held free = record { quiet = quiet; held = held; free = free }

-- ---- more

-- two counts together
counted_sum : (f g k : (Ending → Bool) → ℕ) (x y : Tally) → Counted f x → Counted g y → ((test : Ending → Bool) → f test + g test ≡ k test)
    → Counted k (tallied (x.quiet + y.quiet) (x.held + y.held) (x.free + y.free))
counted_sum f g k x y a b e = record {
  quiet_is = ap₂ (λ (m n : ℕ). m + n) a.quiet_is b.quiet_is ∙ e is_quiet;
  held-is = ap₂ (λ (m n : ℕ). m + n) a.held-is b.held-is ∙ e is_held;
  free-is = ap₂ (λ (m n : ℕ). m + n) a.free-is b.free-is ∙ e is_free;
}

module _ (t : Table) (commands : List Command) where
  pub one_board-more : (place b : ℕ) (x y : Tally) → Counted (count_boards t commands place b) x → Counted (count_one (ending_at t commands place b)) y
      → Counted (count_boards t commands place (b + 1)) (tallied (x.quiet + y.quiet) (x.held + y.held) (x.free + y.free))
  one_board-more place b x y p q =
      counted_sum (count_boards t commands place b) (count_one (ending_at t commands place b)) (count_boards t commands place (b + 1)) x y p q
      (λ test. rw add-one (let e = cond_more (test (ending_at t commands place b)) (count_boards t commands place b test) in omega arith))

  pub one_place_more : (place : ℕ) (x y : Tally) → Counted (count_places t commands place) x → Counted (count_boards t commands place t.boards) y
      → Counted (count_places t commands (place + 1)) (tallied (x.quiet + y.quiet) (x.held + y.held) (x.free + y.free))
  one_place_more place x y p q =
      counted_sum (count_places t commands place) (count_boards t commands place t.boards) (count_places t commands (place + 1)) x y p q
      (λ test. rw add-one (omega arith))

-- ---- none grows large

pub record Few (n : ℕ) (r : Tally) : Type 0 where
  pub quiet-few : r.quiet ≤ n
  pub held-few : r.held ≤ n
  pub free-few : r.free ≤ n

few_of : (count : (Ending → Bool) → ℕ) (n : ℕ) (r : Tally) → Counted count r → ((test : Ending → Bool) → count test ≤ n) → Few n r
few_of count n r c h = record {
  quiet-few = rw c.quiet_is (h is_quiet);
  held-few = rw c.held-is (h is_held);
  free-few = rw c.free-is (h is_free);
}

at_most_one : (b : Bool) → cond b 1 0 ≤ 1
at_most_one true = omega arith
at_most_one false = omega arith

count-few : (f : ℕ → Bool) (n : ℕ) → count_below f n ≤ n
count-few f zero = omega arith
count-few f (suc n) = let h = count-few f n in let e = cond_more (f n) (count_below f n) in let l = at_most_one (f n) in omega arith

sum_few : (f : ℕ → ℕ) (n : ℕ) → ((i : ℕ) → f i ≤ 16) → sum_below f n ≤ 16 * n
sum_few f zero h = omega arith
sum_few f (suc n) h = let a = h n in let b = sum_few f n h in omega arith

pub one_few : (e : Ending) (r : Tally) → Counted (count_one e) r → Few 1 r
one_few e r c = few_of (count_one e) 1 r c (λ test. at_most_one (test e))

module _ (t : Table) (commands : List Command) where
  pub boards-few : (place b : ℕ) (r : Tally) → Counted (count_boards t commands place b) r → Few b r
  boards-few place b r c = few_of (count_boards t commands place b) b r c (λ test. count-few (λ i. test (ending_at t commands place i)) b)

  pub places_few : t.boards ≤ 16 → (n : ℕ) (r : Tally) → Counted (count_places t commands n) r → Few (16 * n) r
  places_few h n r c =
      few_of (count_places t commands n) (16 * n) r c
      (λ test. sum_few (λ place. count_boards t commands place t.boards test) n
      (λ place. let l = count-few (λ i. test (ending_at t commands place i)) t.boards in omega arith))

-- ---- the loops' ends

module _ (table schedule : List ℕ) (counts : Counts) (ok : Admitted table schedule counts) where
  abbrev t : Table
  t = decode_table table

  pub boards-most : counts.boards ≤ 16
  boards-most = let h = (decoded_accepted table (table-sound table schedule ok.valid)).boards_high in let e = ok.boards-is in omega arith

  pub all_boards : (place b : ℕ) → b ≤ counts.boards → counts.boards ≤ b → (r : Tally) → Counted (count_boards t (decode_schedule schedule) place b) r
      → Counted (count_boards t (decode_schedule schedule) place t.boards) r
  all_boards place b l end r c = let e = ok.boards-is in let f : b ≡ t.boards = omega arith in rw f at c

  pub records-most : commands_in schedule ≤ 500
  records-most = records-few table schedule ok.valid

  pub all_places : (place records : ℕ) → place ≤ records + 1 → records < place → (r : Tally) → Counted (count_places t (decode_schedule schedule) place) r
      → Counted (count_places t (decode_schedule schedule) (suc records)) r
  all_places place records l end r c = let f : place ≡ suc records = omega arith in rw f at c
