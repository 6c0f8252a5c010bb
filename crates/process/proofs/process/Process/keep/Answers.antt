use mathlib.Core.Path.{refl, sym, ◌∙◌}
use mathlib.Core.List.{List}
use Prim.Native.Nat.{ℕ}
use Rattle.numbers.specs.Backup.{number_in}
use Rattle.backup.specs.Replica.{sync}
use Rattle.backup.specs.Place.{checkpoint_of}
use Rattle.process.specs.declared.process.Process.{Process}
use Rattle.process.proofs.Backups.{backed_none, backed_call, keeps-became, drops_none, drops_so}
use Rattle.process.proofs.process.Process.keep.Goals as goal

pub returns-then-is_backed : goal.returns-then-is_backed
returns-then-is_backed c =
    let with_mail : List ℕ → Process = λ mail. record c.args.self.now { mail = mail } in
    let d = c.args.c in
    let k = c.sync_total in
    let r = k.ensures in
    let y = sym c.is_backed.ensures ∙ c.if-is_backed.true in
    record {
      backup_became = λ mail. keeps-became (with_mail mail) k.new.log k.new.head (checkpoint_of d)
          (backed_call (with_mail mail) (λ v. sync v (checkpoint_of d)) k.new.log k.new.head (number_in r.landed) y r.called);
      drops = λ mail. drops_so (with_mail mail) d r.landed _ y r.reports r.total-is;
      rest_stays = refl;
    }

pub returns : goal.returns
returns c =
    let with_mail : List ℕ → Process = λ mail. record c.args.self.now { mail = mail } in
    let d = c.args.c in
    let n = sym c.is_backed.ensures ∙ c.if-is_backed.false in
    record {
      backup_became = λ mail.
          let x : Process = with_mail mail in
          keeps-became x x.log x.head (checkpoint_of d) (backed_none x (λ v. sync v (checkpoint_of d)) n);
      drops = λ mail. drops_none (with_mail mail) (checkpoint_of d) n;
      rest_stays = refl;
    }
