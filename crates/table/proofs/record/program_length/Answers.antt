use mathlib.Core.Path.{ap, ◌∙◌}
use Prim.Native.Nat.{ℕ}
use Rattle.rules.specs.Bytes.{byte_at}
use Rattle.table.proofs.record.program_length.Goals as goal

pub returns : goal.returns
returns c = c.byte.ensures ∙ ap (λ (i : ℕ). byte_at c.args.rest.now i) c.length_place.ensures.0
