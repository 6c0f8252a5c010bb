use Rattle.facts.specs.Walks.{Walked}
use Rattle.rules.specs.Format.{decode_table}
use Rattle.table.proofs.Walk.{place_passes}
use Rattle.table.proofs.instructions.program_ok.Given as goal

abbrev pub invariant-loop-k : goal.invariant-loop-k
invariant-loop-k l = Walked (place_passes (decode_table l.table) l.p l.n l.program) l.n l.k
