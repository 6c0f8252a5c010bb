use Rattle.std.proofs.lemmas.Result.{err_from_is_err_and}
use Rattle.backup.specs.Place.{checkpoint_of}
use Rattle.backup.specs.Replica.{sync}
use Rattle.backup_value.specs.Value.{view}
use Rattle.backup_value.proofs.ByValue.{answered-done, answered-refused, report_so, report-refused, view_laid}
use Rattle.backup_value.proofs.Backup.metered_sync.Goals as goal

pub returns-in_err-rounds : goal.returns-in_err-rounds
returns-in_err-rounds c =
    let b = c.args.self in
    let d = checkpoint_of c.args.c in
    let k = c.metered_sync.new in
    let e = rw c.head-head.ensures at c.in_err-rounds.ensures in
    let p = err_from_is_err_and c.from_residual.result c.from_residual.ensures.1 in
    let a = answered-refused b k.saved k.head (λ v. sync v d) _ e.answered in
    rw (p.1, p.2) (record { answered = a; reported = report-refused b _ d a; one_pass = rw (view_laid b) at e.one_pass })

pub returns : goal.returns
returns c =
    let b = c.args.self in
    let d = checkpoint_of c.args.c in
    let k = c.metered_sync.new in
    let e = rw c.head-head.ensures at c.in_ok-rounds.ensures in
    rw c.closed.ensures
    (record {
      answered = answered-done b k.saved k.head (λ v. sync v d) e.answered;
      reported = report_so _ (view b) d (rw (view_laid b) at e.report_after);
      one_pass = rw (view_laid b) at e.one_pass;
    })
