use mathlib.Core.Path.{refl}
use Rattle.process.specs.Row.{checkpoint_in}
use Rattle.process.proofs.process.Process.snapshot.Goals as goal

pub returns : goal.returns
unfolding checkpoint_in
returns c = refl
