use mathlib.Core.List.{map}
use Prim.Native.Nat.{◌+◌}
use lib.ListN.{drop}
use Rattle.writer.specs.Fitted.{fit_byte}
use Rattle.facts.specs.Laying.{Laying}
use Rattle.writer.proofs.lay.put_ends.Given as goal

abbrev pub invariant-loop-k : goal.invariant-loop-k
invariant-loop-k l = Laying l.initial.bytes l.at (map fit_byte l.ends) l.bytes (l.at + l.k) (map fit_byte (drop l.k l.ends))
