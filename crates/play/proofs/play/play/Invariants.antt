-- The loop: `Playing` holds between two rounds, and the move of the next record is known.
use mathlib.Core.Path.{◌≡◌}
use Prim.Native.Nat.{◌-◌, ◌<◌}
use Rattle.plan.specs.Plan.{plan_of}
use Rattle.rules.specs.Schedule.{commands_in}
use Rattle.records.specs.Commands.{move_in}
use Rattle.stretch.specs.Plays.{sheets_of}
use Rattle.stretch.proofs.Playing.{Playing}
use Rattle.play.proofs.play.play.Given as goal

abbrev pub invariant-loop-i : goal.invariant-loop-i
invariant-loop-i l = Playing (plan_of l.table l.plan) l.schedule l.initial.i l.end l.initial.store l.initial.entries (sheets_of l.initial.answers l.initial.reasons l.initial.origins)
    l.i l.store l.entries (sheets_of l.answers l.reasons l.origins)
    × (l.i < commands_in l.schedule → l.ahead ≡ move_in l.schedule l.i)

abbrev pub decreases-loop-i : goal.decreases-loop-i
decreases-loop-i l = l.end - l.i
