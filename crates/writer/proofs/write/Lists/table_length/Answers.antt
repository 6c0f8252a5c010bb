use Rattle.writer.specs.Given.{given_by}
use Rattle.writer.proofs.Composing.{length_laid}
use native.Mathlib.Omega.{arith}
use Rattle.writer.proofs.write.Lists.table_length.Goals as goal

pub returns : goal.returns
returns c = let k = length_laid (given_by c.args.self.now) c.requires in (k.0, omega arith)
