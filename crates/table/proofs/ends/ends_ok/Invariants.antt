use Prim.Native.Nat.{◌<◌}
use Rattle.facts.specs.Walks.{Walked}
use Rattle.table.proofs.EndsPass.{pair_passes}
use Rattle.table.proofs.ends.ends_ok.Given as goal

abbrev pub invariant-loop-k : goal.invariant-loop-k
invariant-loop-k l = (l.channels < 256) × Walked (pair_passes l.table) l.channels l.k
