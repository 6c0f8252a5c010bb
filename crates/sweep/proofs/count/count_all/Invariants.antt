use Prim.Native.Nat.{◌+◌, ◌≤◌}
use Rattle.rules.specs.Format.{decode_table}
use Rattle.rules.specs.Schedule.{decode_schedule}
use Rattle.sweep.specs.Counted.{Counted, count_places}
use Rattle.sweep.proofs.Counting.{tallied}
use Rattle.sweep.proofs.count.count_all.Given as goal

abbrev pub invariant-loop-place : goal.invariant-loop-place
invariant-loop-place l = (l.place ≤ l.records + 1) × Counted (count_places (decode_table l.table) (decode_schedule l.schedule) l.place) (tallied l.quiet l.held l.free)
