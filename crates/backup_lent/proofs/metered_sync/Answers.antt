use Rattle.std.proofs.lemmas.Result.{err_from_is_err_and}
use Rattle.backup.specs.Accepts.{sync_unfit}
use Rattle.backup.specs.Replica.{sync}
use Rattle.backup_lent.specs.Lent.{view_in, checkpoint_lent}
use Rattle.backup_lent.proofs.Lending.{answered_20, answered-refused, answered-done, report_20, report-refused, report-done, rounds_20, rounds_so}
use Rattle.backup_lent.proofs.metered_sync.Goals as goal

pub returns-in_err-whole : goal.returns-in_err-whole
returns-in_err-whole c =
    let a = c.args in
    let s = a.saved.now in
    let h = a.head.now in
    let d = checkpoint_lent a.place a.registers.now a.taken.now in
    let o = c.in_err-whole.ensures in
    let p = err_from_is_err_and c.from_residual.result c.from_residual.ensures.1 in
    rw (p.1, p.2)
    (record {
      answered = answered_20 s h (λ v. sync v d) _ o (sync_unfit (view_in s h) d);
      report_after = report_20 s h _ o d;
      one_pass = rounds_20 s h _ o d;
    })

pub returns-in_err-m : goal.returns-in_err-m
returns-in_err-m c =
    let a = c.args in
    let s = a.saved.now in
    let h = a.head.now in
    let d = checkpoint_lent a.place a.registers.now a.taken.now in
    let w = c.in_ok-whole.whole in
    let o = c.in_ok-whole.ensures in
    let k = c.metered_sync_in.new in
    let e = c.in_err-m.ensures in
    let r = c.in_err-m.field-0.0 in
    let p = err_from_is_err_and c.from_residual-in_err-m.result c.from_residual-in_err-m.ensures.1 in
    rw (p.1, p.2)
    (record {
      answered = answered-refused s h (λ v. sync v d) w o k.log k.head r e.called;
      report_after = report-refused s h w o _ r e.reports;
      one_pass = rounds_so s h w o d _ 0 e.one_pass;
    })

pub returns : goal.returns
returns c =
    let a = c.args in
    let s = a.saved.now in
    let h = a.head.now in
    let d = checkpoint_lent a.place a.registers.now a.taken.now in
    let w = c.in_ok-whole.whole in
    let o = c.in_ok-whole.ensures in
    let k = c.metered_sync_in.new in
    let e = c.in_ok-m.ensures in
    rw c.front.ensures
    (record {
      answered = answered-done s h (λ v. sync v d) w o k.log k.head e.called;
      report_after = report-done s h w o _ c.in_ok-m.m.landed e.reports;
      one_pass = rounds_so s h w o d 0 _ e.one_pass;
    })
