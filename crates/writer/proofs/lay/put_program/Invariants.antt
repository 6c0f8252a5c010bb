use Prim.Native.Nat.{◌+◌, ◌-◌, ◌*◌}
use lib.ListN.{drop}
use Rattle.rules.specs.Encode.{program_bytes}
use Rattle.writer.specs.Fitted.{fit_threes}
use Rattle.facts.specs.Laying.{Laying}
use Rattle.writer.proofs.lay.put_program.Given as goal

abbrev pub invariant-loop-k : goal.invariant-loop-k
invariant-loop-k l =
    Laying l.initial.bytes l.at (program_bytes l.n (drop (3 * l.i) (fit_threes l.instructions))) l.bytes (l.at + 6 * l.k)
    (program_bytes (l.n - l.k) (drop (3 * (l.i + l.k)) (fit_threes l.instructions)))
