use Rattle.std.proofs.Common.{◌≡◌}
use Rattle.facts.specs.Tests.{any_below}
use Rattle.rejoin.specs.Rebackups.{crowded_on}
use Rattle.rejoin.proofs.rebackup.crowded.Given as goal

abbrev pub invariant-loop-port : goal.invariant-loop-port
invariant-loop-port l = l.found ≡ any_below (crowded_on l.plan.programs l.totals l.p) l.port
