-- A sweep that is not refused: its table and its schedule are sound, and it has few records.
use mathlib.Core.Path.{◌≡◌}
use mathlib.Core.List.{List}
use Prim.Native.Nat.{ℕ, ◌≤◌}
use lib.Dec.{leb}
use borrow.Author.Tests.{leb-true}
use Rattle.facts.specs.Tests.{and_left}
use Rattle.rules.specs.Sizes.{sweep_most}
use Rattle.rules.specs.Format.{validate_table}
use Rattle.rules.specs.Schedule.{commands_in, validate_schedule}
use Rattle.rules.specs.Sweep.{sweepable, validate_sweep}
use Rattle.rules.proofs.Valid.{test_passed}
use Rattle.rules.proofs.AcceptedRun.{number_passed}

module _ (table schedule : List ℕ) (valid : validate_sweep table schedule ≡ 0) where
  pub table-sound : validate_table table ≡ 0
  unfolding validate_sweep
  table-sound = (number_passed (validate_table table) _ valid).0

  pub schedule_sound : validate_schedule schedule ≡ 0
  unfolding validate_sweep
  schedule_sound = (number_passed (validate_schedule schedule) _ (number_passed (validate_table table) _ valid).1).0

  pub records-few : commands_in schedule ≤ sweep_most
  unfolding validate_sweep sweepable
  records-few =
      let later = (number_passed (validate_schedule schedule) _ (number_passed (validate_table table) _ valid).1).1 in
      leb-true (commands_in schedule) sweep_most (and_left (leb (commands_in schedule) sweep_most) _ (test_passed (sweepable schedule) 51 0 later))
