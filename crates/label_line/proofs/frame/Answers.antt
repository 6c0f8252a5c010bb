use mathlib.Core.Path.{refl}
use Rattle.label_line.specs.Puts.{frame_bytes}
use Rattle.label_line.proofs.frame.Goals as goal

pub returns : goal.returns
unfolding frame_bytes
returns c = refl
