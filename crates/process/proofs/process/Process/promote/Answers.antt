use mathlib.Core.Path.{ap}
use Rattle.backup.specs.declared.place.Promotion.{Promotion}
use Rattle.process.proofs.Promoting.{promoted-none, promoted_so}
use native.Mathlib.Omega.{arith}
use Rattle.process.proofs.process.Process.promote.Goals as goal

pub returns-then-len-gt-LOG-clause-became : goal.returns-then-len-gt-LOG-clause-became
returns-then-len-gt-LOG-clause-became c =
    let a = c.args in
    let n = ap (λ (p : Promotion). p.len) c.fail_over_in-p.ensures.value in
    promoted-none a.self.now a.channels (let w = c.wide-len.ensures.0 in let t = c.if-len-gt-LOG.true in omega arith)

pub returns-clause-became : goal.returns-clause-became
returns-clause-became c =
    let a = c.args in
    let mail = c.readdress in
    rw (c.restore.ensures, c.fail_over_in-p.ensures.value)
    (promoted_so a.self.now a.channels mail.new.mail (rw (c.wide-len.ensures.0, c.fail_over_in-p.ensures.value) at mail.ensures))
