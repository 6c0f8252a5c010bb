use Rattle.std.proofs.lemmas.Result.{err_from_is_err_and}
use Rattle.backup.specs.Replica.{arrive}
use Rattle.backup_value.proofs.ByValue.{answered-done, answered-refused}
use Rattle.backup_value.proofs.Backup.arrive.Goals as goal

pub returns-in_err-arrive : goal.returns-in_err-arrive
returns-in_err-arrive c =
    let a = c.args in
    let k = c.arrive.new in
    let p = err_from_is_err_and c.from_residual.result c.from_residual.ensures.1 in
    rw (p.1, p.2) (answered-refused a.self k.saved k.head (λ v. arrive v a.port a.word) _ (rw c.head-head.ensures at c.in_err-arrive.ensures))

pub returns : goal.returns
returns c =
    let a = c.args in
    let k = c.arrive.new in
    rw c.closed.ensures (answered-done a.self k.saved k.head (λ v. arrive v a.port a.word) (rw c.head-head.ensures at c.in_ok-arrive.ensures))
