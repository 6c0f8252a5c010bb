-- `reach_of`: the move of the record that was read.
use mathlib.Core.Path.{ap, ◌∙◌}
use Prim.Native.Nat.{min}
use Rattle.rules.specs.Moves.{Command}
use Rattle.stretch.proofs.stretch.reach_of.Goals as goal

pub returns : goal.returns
returns c = record {
  end_is = c.least.ensures ∙ ap (min c.args.to) c.count.ensures;
  first-is = ap (λ (x : Command). x.move) c.command_at-first.ensures;
}
