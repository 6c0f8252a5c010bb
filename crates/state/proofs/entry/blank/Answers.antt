use Rattle.std.proofs.Common.{refl}
use Rattle.state.specs.Store.{blank_entry}
use Rattle.state.proofs.entry.blank.Goals as goal

pub returns : goal.returns
unfolding blank_entry
returns c = refl
