use mathlib.Core.Path.{sym, ◌∙◌}
use Rattle.process.proofs.Promoting.{crashed_none, crashed_promoted, crashed_unprotected, crashed_elsewhere}
use Rattle.process.proofs.process.Process.crash.Goals as goal

pub returns-then-not-has_record-clause-became : goal.returns-then-not-has_record-clause-became
returns-then-not-has_record-clause-became c = let a = c.args in crashed_none a.self.now a.channels a.b (sym c.has_record.ensures ∙ c.if-not-has_record.true)

pub returns-then-self-b-clause-became : goal.returns-then-self-b-clause-became
returns-then-self-b-clause-became c =
    let a = c.args in
    crashed_promoted a.self.now a.channels a.b (sym c.has_record.ensures ∙ c.if-not-has_record.false) c.promote.new.self c.if-self-b.true c.promote.ensures.became

pub returns-then-self-b-2-clause-became : goal.returns-then-self-b-2-clause-became
returns-then-self-b-2-clause-became c =
    let a = c.args in
    crashed_unprotected a.self.now a.channels a.b (sym c.has_record.ensures ∙ c.if-not-has_record.false) c.if-self-b.false c.unprotect.new.self c.if-self-b-2.true
    c.unprotect.ensures.became

pub returns-else-self-b-2-clause-became : goal.returns-else-self-b-2-clause-became
returns-else-self-b-2-clause-became c =
    let a = c.args in
    crashed_elsewhere a.self.now a.channels a.b (sym c.has_record.ensures ∙ c.if-not-has_record.false) c.if-self-b.false c.if-self-b-2.false
