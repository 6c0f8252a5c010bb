use Rattle.std.proofs.Common.{◌-◌, take, drop}
use Rattle.std.specs.Io.KnownBytes.{Consumes}
use Rattle.bench.specs.Took.{FilledPart}
use Rattle.bench.proofs.read_part.Given as goal

abbrev pub invariant-loop-end : goal.invariant-loop-end
invariant-loop-end g l = FilledPart l.initial.input l.from l.to l.end l.input × Consumes (g.R.Read.remaining l.initial.reader) (g.R.Read.remaining l.reader) (drop l.from (take l.end l.input))

abbrev pub decreases-loop-end : goal.decreases-loop-end
decreases-loop-end g l = l.to - l.end
