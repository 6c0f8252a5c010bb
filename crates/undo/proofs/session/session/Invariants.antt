-- The loop of `session`: `Going` holds between two rounds, and fewer records are held than there is room for.
use Prim.Native.Nat.{◌-◌, ◌<◌}
use Rattle.plan.specs.Plan.{plan_of}
use Rattle.stretch.specs.Plays.{sheets_of}
use Rattle.undo.specs.History.{held_most}
use Rattle.undo.proofs.Going.{Going}
use Rattle.undo.proofs.session.session.Given as goal

abbrev pub invariant-loop-i : goal.invariant-loop-i
invariant-loop-i l = (l.held < held_most)
    × Going (plan_of l.table l.plan) l.schedule l.initial.store l.initial.now_entries (sheets_of l.initial.answers l.initial.reasons l.initial.origins)
    l.store l.now_entries l.base l.base_entries l.history l.held l.kept l.i (sheets_of l.answers l.reasons l.origins)

abbrev pub decreases-loop-i : goal.decreases-loop-i
decreases-loop-i l = l.records - l.i
