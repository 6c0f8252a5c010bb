use Rattle.std.proofs.Common.{◌≡◌}
use Rattle.facts.specs.Tests.{any_below}
use Rattle.crash.specs.Losses.{unbacked_in}
use Rattle.crash.proofs.losses.some_unbacked.Given as goal

abbrev pub invariant-loop-p : goal.invariant-loop-p
invariant-loop-p l = l.found ≡ any_below (unbacked_in l.processes) l.p
