use Rattle.process.proofs.Processes.{unprotected-became}
use Rattle.process.proofs.process.Process.unprotect.Goals as goal

pub returns-clause-became : goal.returns-clause-became
returns-clause-became c = unprotected-became c.args.self.now
