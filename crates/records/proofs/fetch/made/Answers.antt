use mathlib.Core.Path.{ap}
use Prim.Native.Nat.{ℕ}
use Rattle.records.specs.Fetch.{numbered}
use Rattle.records.proofs.fetch.made.Goals as goal

pub returns : goal.returns
returns c = let s = c.args.s in ap (λ (a : ℕ). numbered s.first a s.word) c.byte_word.ensures.0
