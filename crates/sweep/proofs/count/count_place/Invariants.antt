use Prim.Native.Nat.{◌≤◌}
use Rattle.rules.specs.Format.{decode_table}
use Rattle.rules.specs.Schedule.{decode_schedule}
use Rattle.sweep.specs.Counted.{Counted, count_boards}
use Rattle.sweep.proofs.Counting.{tallied}
use Rattle.sweep.proofs.count.count_place.Given as goal

abbrev pub invariant-loop-b : goal.invariant-loop-b
invariant-loop-b l = (l.b ≤ l.boards) × Counted (count_boards (decode_table l.table) (decode_schedule l.schedule) l.place l.b) (tallied l.quiet l.held l.free)
