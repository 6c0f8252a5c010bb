-- A schedule judged test by test.
use Rattle.std.specs.Prelude.{Result}
use mathlib.Core.Path.{◌≡◌, ap, sym, ◌∙◌}
use mathlib.Core.Bool.{Bool, true, false, cond}
use mathlib.Core.List.{List}
use Prim.Native.Nat.{ℕ, ◌+◌, ◌*◌, ◌≤◌, ◌<◌}
use native.Mathlib.Omega.{arith}
use lib.Dec.{eqb, leb}
use lib.ListN.{length}
use borrow.Author.Tests.{le-leb, lt-leb, eq-eqb, ne_eqb}
use Rattle.facts.specs.Tests.{and_both}
use Rattle.facts.specs.Ranges.{and_fails}
use Rattle.rules.specs.Format.{length_field, version_in, or_number}
use Rattle.rules.specs.Schedule.{commands_most, commands_in, schedule_ok, validate_schedule}
use Rattle.numbers.specs.declared.runs.Refusal.{Refusal}
use Rattle.numbers.specs.Runs.{number_in}
use Rattle.records.specs.Commands.{ScheduleJudged, records_in}

module _ (bytes : List ℕ) where
  -- what all four tests ask
  pub record Whole : Type 0 where
    pub long : 3 ≤ length bytes
    pub true_field : 2 + length_field bytes ≡ length bytes
    pub whole : 3 + 6 * commands_in bytes ≡ length bytes
    pub few : commands_in bytes ≤ commands_most

  pub tested : (field : ℕ) → field ≡ length_field bytes → 3 ≤ length bytes → field + 2 ≡ length bytes → 3 + 6 * commands_in bytes ≡ length bytes → commands_in bytes ≤ commands_most → Whole
  tested field e long true_field whole few = record { long = long; true_field = omega arith; whole = whole; few = few }

  holds : Whole → schedule_ok bytes ≡ true
  unfolding schedule_ok
  holds w =
      and_both (leb 3 (length bytes)) _ (le-leb 3 (length bytes) w.long)
      (and_both (eqb (2 + length_field bytes) (length bytes)) _ (eq-eqb (2 + length_field bytes) (length bytes) w.true_field)
      (and_both (eqb (3 + 6 * commands_in bytes) (length bytes)) _ (eq-eqb (3 + 6 * commands_in bytes) (length bytes) w.whole)
      (le-leb (commands_in bytes) commands_most w.few)))

  passes : Whole → validate_schedule bytes ≡ or_number (eqb (version_in bytes) 1) 10 0
  unfolding validate_schedule
  passes w = ap (λ (test : Bool). or_number test 9 (or_number (eqb (version_in bytes) 1) 10 0)) (holds w)

module _ (bytes : List ℕ) (r : Result ℕ Refusal) where
  judged_as : (n : ℕ) → validate_schedule bytes ≡ n → number_in r ≡ n → records_in r ≡ cond (eqb n 0) (commands_in bytes) 0 → ScheduleJudged bytes r
  judged_as n v e f = record { number_is = e ∙ sym v; records_is = f ∙ ap (λ (x : ℕ). cond (eqb x 0) (commands_in bytes) 0) (sym v) }

  fails_9 : schedule_ok bytes ≡ false → (number_in r ≡ 9) × (records_in r ≡ 0) → ScheduleJudged bytes r
  unfolding validate_schedule
  fails_9 h e = judged_as 9 (ap (λ (test : Bool). or_number test 9 (or_number (eqb (version_in bytes) 1) 10 0)) h) e.0 e.1

  pub short_9 : length bytes < 3 → (number_in r ≡ 9) × (records_in r ≡ 0) → ScheduleJudged bytes r
  unfolding schedule_ok
  short_9 h = fails_9 (rw (lt-leb 3 (length bytes) h))

  pub field_9 : (field : ℕ) → field ≡ length_field bytes → (field + 2 ≡ length bytes → ⊥) → (number_in r ≡ 9) × (records_in r ≡ 0) → ScheduleJudged bytes r
  unfolding schedule_ok
  field_9 field e h = fails_9 (and_fails (leb 3 (length bytes)) _ (rw (ne_eqb (2 + length_field bytes) (length bytes) (λ z. h (omega arith)))))

  pub broken_9 : (3 + 6 * commands_in bytes ≡ length bytes → ⊥) → (number_in r ≡ 9) × (records_in r ≡ 0) → ScheduleJudged bytes r
  unfolding schedule_ok
  broken_9 h =
      fails_9
      (and_fails (leb 3 (length bytes)) _ (and_fails (eqb (2 + length_field bytes) (length bytes)) _ (rw (ne_eqb (3 + 6 * commands_in bytes) (length bytes) h))))

  pub many_9 : commands_most < commands_in bytes → (number_in r ≡ 9) × (records_in r ≡ 0) → ScheduleJudged bytes r
  unfolding schedule_ok
  many_9 h =
      fails_9
      (and_fails (leb 3 (length bytes)) _
      (and_fails (eqb (2 + length_field bytes) (length bytes)) _
      (and_fails (eqb (3 + 6 * commands_in bytes) (length bytes)) _ (lt-leb (commands_in bytes) commands_most h))))

  pub version_10 : Whole bytes → (version_in bytes ≡ 1 → ⊥) → (number_in r ≡ 10) × (records_in r ≡ 0) → ScheduleJudged bytes r
  version_10 w h e = judged_as 10 (passes bytes w ∙ ap (λ (test : Bool). or_number test 10 0) (ne_eqb (version_in bytes) 1 h)) e.0 e.1

  pub accepted_0 : Whole bytes → version_in bytes ≡ 1 → number_in r ≡ 0 → records_in r ≡ commands_in bytes → ScheduleJudged bytes r
  accepted_0 w h e f = judged_as 0 (passes bytes w ∙ ap (λ (test : Bool). or_number test 10 0) (eq-eqb (version_in bytes) 1 h)) e f
