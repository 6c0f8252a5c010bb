use Rattle.instruction.proofs.Computing.{computes}
use Rattle.instruction.proofs.instruction.compute.Goals as goal

pub returns-clause-became : goal.returns-clause-became
returns-clause-became c = let i = c.args.i in rw (c.tally-x.ensures, c.evaluate.ensures) (computes c.args.x.now i.code i.a i.operand)
