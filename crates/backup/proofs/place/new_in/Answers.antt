use Rattle.std.proofs.Common.{refl}
use Rattle.backup.specs.PlaceLaws.{fresh_in}
use Rattle.backup.proofs.place.new_in.Goals as goal

pub returns : goal.returns
returns c = record {
  head_after = refl;
  by_index = λ log l. fresh_in log l;
}
