use mathlib.Core.Path.{sym, ◌∙◌}
use Rattle.process.proofs.Transferring.{ends-transfer-none, ends-transfer_so}
use Rattle.process.proofs.process.Process.end_transfer.Goals as goal

pub returns-then-has_record-clause-became : goal.returns-then-has_record-clause-became
returns-then-has_record-clause-became c = ends-transfer_so c.args.self.now (sym c.has_record.ensures ∙ c.if-has_record.true)

pub returns-else-has_record-clause-became : goal.returns-else-has_record-clause-became
returns-else-has_record-clause-became c = ends-transfer-none c.args.self.now (sym c.has_record.ensures ∙ c.if-has_record.false)
