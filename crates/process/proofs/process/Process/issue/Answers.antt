use Rattle.process.proofs.Processes.{issued-became}
use Rattle.process.proofs.process.Process.issue.Goals as goal

pub returns-clause-became : goal.returns-clause-became
returns-clause-became c = rw c.count_anew.ensures (issued-became c.args.self.now)
