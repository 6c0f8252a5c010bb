-- How far a stretch reaches.
use Rattle.std.specs.Prelude.{◌≡◌, List, ℕ, min}
use Rattle.records.specs.Commands.{move_in}
use Rattle.rules.specs.Schedule.{commands_in}
use Rattle.stretch.specs.declared.stretch.Reach.{Reach}

-- it ends at record `to`, or with the schedule, and begins with the move of record `from`
pub record ReachOf (schedule : List ℕ) (from to : ℕ) (r : Reach) : Type 0 where
  pub end_is : r.end ≡ min to (commands_in schedule)
  pub first-is : r.first ≡ move_in schedule from
