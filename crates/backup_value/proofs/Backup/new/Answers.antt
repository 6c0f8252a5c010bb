use mathlib.Core.Path.{refl}
use Rattle.backup_value.specs.Value.{view}
use Rattle.backup_value.proofs.Backup.new.Goals as goal

pub returns : goal.returns
unfolding view
returns c = refl
