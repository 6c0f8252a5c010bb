use Rattle.std.proofs.Common.{◌-◌}
use Rattle.backup.proofs.Compacting.{Sifting, Moving}
use Rattle.backup.proofs.place.compact.Given as goal

abbrev pub invariant-loop-i : goal.invariant-loop-i
invariant-loop-i l = Sifting l.initial.log l.len l.initial.i l.initial.kept l.initial.rounds l.initial.left l.log l.left l.due l.i l.kept l.rounds

abbrev pub decreases-loop-i : goal.decreases-loop-i
decreases-loop-i l = l.len - l.i

abbrev pub invariant-loop-i-2 : goal.invariant-loop-i-2
invariant-loop-i-2 l = Sifting l.initial.log l.len l.initial.i l.initial.kept l.initial.rounds l.initial.left l.log l.left l.due l.i l.kept l.rounds

abbrev pub decreases-loop-i-2 : goal.decreases-loop-i-2
decreases-loop-i-2 l = l.len - l.i

abbrev pub invariant-loop-j : goal.invariant-loop-j
invariant-loop-j l = Moving l.initial.log l.len l.i l.initial.kept l.initial.rounds l.log l.j l.kept l.rounds
