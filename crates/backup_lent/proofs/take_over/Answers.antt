use Rattle.std.proofs.lemmas.Result.{err_from_is_err_and}
use Rattle.backup_lent.proofs.Lending.{hands_over, hands_nothing}
use Rattle.backup_lent.proofs.take_over.Goals as goal

pub returns-in_err-look : goal.returns-in_err-look
returns-in_err-look c =
    let a = c.args in
    let p = err_from_is_err_and c.from_residual.result c.from_residual.ensures.1 in
    rw (p.1, p.2) (hands_nothing a.saved.now a.head.now _ c.in_err-look.ensures)

pub returns : goal.returns
returns c = let a = c.args in hands_over a.saved.now a.head.now _ c.in_ok-look.ensures
