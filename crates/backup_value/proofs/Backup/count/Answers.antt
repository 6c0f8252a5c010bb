use Rattle.std.proofs.lemmas.Result.{err_from_is_err_and}
use Rattle.backup.specs.Replica.{count}
use Rattle.backup_value.proofs.ByValue.{answered-done, answered-refused}
use Rattle.backup_value.proofs.Backup.count.Goals as goal

pub returns-in_err-count : goal.returns-in_err-count
returns-in_err-count c =
    let b = c.args.self in
    let p = err_from_is_err_and c.from_residual.result c.from_residual.ensures.1 in
    rw (p.1, p.2) (answered-refused b b.log c.count.new.head count _ (rw c.head-head.ensures at c.in_err-count.ensures))

pub returns : goal.returns
returns c = let b = c.args.self in rw c.closed.ensures (answered-done b b.log c.count.new.head count (rw c.head-head.ensures at c.in_ok-count.ensures))
