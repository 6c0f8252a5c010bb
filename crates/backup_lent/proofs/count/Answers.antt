use Rattle.std.proofs.lemmas.Result.{err_from_is_err_and}
use Rattle.backup.specs.Accepts.{count_unfit}
use Rattle.backup.specs.Replica.{count}
use Rattle.backup_lent.specs.Lent.{view_in}
use Rattle.backup_lent.proofs.Lending.{answered_20, answered-refused, answered-done}
use Rattle.backup_lent.proofs.count.Goals as goal

pub returns-in_err-whole : goal.returns-in_err-whole
returns-in_err-whole c =
    let s = c.args.saved.now in
    let h = c.args.head.now in
    let p = err_from_is_err_and c.from_residual.result c.from_residual.ensures.1 in
    rw (p.1, p.2) (answered_20 s h count _ c.in_err-whole.ensures (count_unfit (view_in s h)))

pub returns-in_err-count_in : goal.returns-in_err-count_in
returns-in_err-count_in c =
    let s = c.args.saved.now in
    let p = err_from_is_err_and c.from_residual-in_err-count_in.result c.from_residual-in_err-count_in.ensures.1 in
    rw (p.1, p.2)
    (answered-refused s c.args.head.now count c.in_ok-whole.whole c.in_ok-whole.ensures s c.count_in.new.head c.in_err-count_in.field-0.0 (c.in_err-count_in.ensures.by_index s))

pub returns : goal.returns
returns c =
    let s = c.args.saved.now in
    rw c.front.ensures
    (answered-done s c.args.head.now count c.in_ok-whole.whole c.in_ok-whole.ensures s c.count_in.new.head (c.in_ok-count_in.ensures.by_index s))
