use mathlib.Core.Path.{refl}
use Rattle.backup_lent.specs.Lent.{view_in}
use Rattle.backup_lent.proofs.new.Goals as goal

pub returns : goal.returns
unfolding view_in
returns c = record {
  head_after = refl;
  by_index = λ saved. refl;
}
