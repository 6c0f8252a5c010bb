use mathlib.Core.Path.{sym, ◌∙◌}
use Rattle.numbers.specs.Backup.{number_in}
use Rattle.backup.specs.Replica.{arrive}
use Rattle.process.proofs.Backups.{saved-none, saved_call}
use Rattle.process.proofs.process.Process.save.Goals as goal

pub returns-then-has_record : goal.returns-then-has_record
returns-then-has_record c =
    let a = c.args in
    let k = c.arrive_in in
    saved_call a.self.now (λ v. arrive v a.port a.word) k.new.log k.new.head (number_in k.result) (sym c.has_record.ensures ∙ c.if-has_record.true) k.ensures.called

pub returns-else-has_record : goal.returns-else-has_record
returns-else-has_record c =
    let a = c.args in saved-none a.self.now (λ v. arrive v a.port a.word) (sym c.has_record.ensures ∙ c.if-has_record.false)
