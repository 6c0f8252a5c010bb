-- A schedule that passes numbers 9 and 10: how long it is, its version, and how many commands it has.
use mathlib.Core.Path.{◌≡◌}
use mathlib.Core.Bool.{◌&&◌}
use mathlib.Core.List.{List}
use Prim.Native.Nat.{ℕ, ◌+◌, ◌*◌, ◌≤◌}
use lib.Dec.{eqb, leb}
use lib.ListN.{length}
use borrow.Author.Tests.{eqb-true, leb-true}
use Rattle.facts.specs.Tests.{and_left, and_right}
use Rattle.rules.specs.Sizes.{commands_most, schedule_head}
use Rattle.rules.specs.Format.{length_field, version_in}
use Rattle.rules.specs.Schedule.{commands_in, command, decode_schedule, schedule_ok, validate_schedule}
use Rattle.rules.proofs.Valid.{test_passed, further-passed, length-sixes}

pub commands-counted : (schedule : List ℕ) → length (decode_schedule schedule) ≡ commands_in schedule
unfolding decode_schedule
commands-counted schedule = length-sixes command (commands_in schedule) _

pub record Scheduled (schedule : List ℕ) : Type 0 where
  pub long : schedule_head ≤ length schedule
  pub whole : schedule_head + 6 * commands_in schedule ≡ length schedule
  pub few : commands_in schedule ≤ commands_most
  pub version : version_in schedule ≡ 1

pub scheduled : (schedule : List ℕ) → validate_schedule schedule ≡ 0 → Scheduled schedule
unfolding validate_schedule schedule_ok
scheduled schedule h =
    let long = leb schedule_head (length schedule) in
    let field = eqb (2 + length_field schedule) (length schedule) in
    let whole = eqb (schedule_head + 6 * commands_in schedule) (length schedule) in
    let few = leb (commands_in schedule) commands_most in
    let ok = test_passed (schedule_ok schedule) 8 _ h in
    let later = and_right field (whole && few) (and_right long (field && (whole && few)) ok) in
    record {
      long = leb-true schedule_head (length schedule) (and_left long (field && (whole && few)) ok);
      whole = eqb-true (schedule_head + 6 * commands_in schedule) (length schedule) (and_left whole few later);
      few = leb-true (commands_in schedule) commands_most (and_right whole few later);
      version = eqb-true (version_in schedule) 1 (test_passed (eqb (version_in schedule) 1) 9 0 (further-passed (schedule_ok schedule) 8 _ h));
    }
