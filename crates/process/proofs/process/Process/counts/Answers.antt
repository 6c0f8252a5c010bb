use mathlib.Core.Path.{sym, ◌∙◌}
use Rattle.numbers.specs.Backup.{number_in}
use Rattle.backup.specs.Replica.{count}
use Rattle.process.specs.declared.process.Process.{Process}
use Rattle.process.proofs.Backups.{backed_none, backed_call, counts-became}
use Rattle.process.proofs.process.Process.counts.Goals as goal

pub returns-then-not-is_backed-clause-became : goal.returns-then-not-is_backed-clause-became
returns-then-not-is_backed-clause-became c = λ mail log.
    let x : Process = record c.args.self.now { mail = mail; log = log } in
    counts-became x log x.head (backed_none x count (sym c.is_backed.ensures ∙ c.if-not-is_backed.true))

pub returns-clause-became : goal.returns-clause-became
returns-clause-became c = λ mail log.
    let x : Process = record c.args.self.now { mail = mail; log = log } in
    let k = c.count_in in
    counts-became x log k.new.head (backed_call x count log k.new.head (number_in k.result) (sym c.is_backed.ensures ∙ c.if-not-is_backed.false) (k.ensures.by_index log))
