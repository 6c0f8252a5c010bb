use Prim.Native.Nat.{◌≤◌}
use Rattle.table.proofs.BoardsPass.{Placing}
use Rattle.table.proofs.boards.judge_boards.Given as goal

abbrev pub invariant-loop-p : goal.invariant-loop-p
invariant-loop-p l = (l.processes ≤ 16) × Placing l.table l.initial.programs l.programs l.placements l.at l.p
