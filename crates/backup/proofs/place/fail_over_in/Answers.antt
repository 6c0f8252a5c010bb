use Rattle.std.proofs.Common.{refl}
use Rattle.backup.specs.PlaceLaws.{fail_over_in_lem}
use Rattle.backup.proofs.place.fail_over_in.Goals as goal

pub returns : goal.returns
returns c = record {
  value = refl;
  by_index = λ log h. fail_over_in_lem log c.args.head.now h;
}
