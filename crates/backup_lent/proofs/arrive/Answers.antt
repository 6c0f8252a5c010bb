use Rattle.std.proofs.lemmas.Result.{err_from_is_err_and}
use Rattle.backup.specs.Accepts.{arrive_unfit}
use Rattle.backup.specs.Replica.{arrive}
use Rattle.backup_lent.specs.Lent.{view_in}
use Rattle.backup_lent.proofs.Lending.{answered_20, answered-refused, answered-done}
use Rattle.backup_lent.proofs.arrive.Goals as goal

pub returns-in_err-whole : goal.returns-in_err-whole
returns-in_err-whole c =
    let a = c.args in
    let s = a.saved.now in
    let h = a.head.now in
    let p = err_from_is_err_and c.from_residual.result c.from_residual.ensures.1 in
    rw (p.1, p.2) (answered_20 s h (λ v. arrive v a.port a.word) _ c.in_err-whole.ensures (arrive_unfit (view_in s h) a.port a.word))

pub returns-in_err-arrive_in : goal.returns-in_err-arrive_in
returns-in_err-arrive_in c =
    let a = c.args in
    let k = c.arrive_in.new in
    let p = err_from_is_err_and c.from_residual-in_err-arrive_in.result c.from_residual-in_err-arrive_in.ensures.1 in
    rw (p.1, p.2)
    (answered-refused a.saved.now a.head.now (λ v. arrive v a.port a.word) c.in_ok-whole.whole c.in_ok-whole.ensures k.log k.head c.in_err-arrive_in.field-0.0 c.in_err-arrive_in.ensures.called)

pub returns : goal.returns
returns c =
    let a = c.args in
    let k = c.arrive_in.new in
    rw c.front.ensures
    (answered-done a.saved.now a.head.now (λ v. arrive v a.port a.word) c.in_ok-whole.whole c.in_ok-whole.ensures k.log k.head c.in_ok-arrive_in.ensures.called)
