use Rattle.std.proofs.lemmas.Result.{err_from_is_err_and}
use Rattle.backup_value.proofs.ByValue.{promoted-done, promoted-refused}
use Rattle.backup_value.proofs.Backup.fail_over.Goals as goal

pub returns-in_err-take_over : goal.returns-in_err-take_over
returns-in_err-take_over c =
    let p = err_from_is_err_and c.from_residual.result c.from_residual.ensures.1 in
    rw (p.1, p.2) (promoted-refused c.args.self _ c.take_over.new.handed (rw c.head-head.ensures at c.in_err-take_over.ensures))

pub returns : goal.returns
returns c = rw c.closed.ensures (promoted-done c.args.self c.take_over.new.handed (rw c.head-head.ensures at c.in_ok-take_over.ensures))
