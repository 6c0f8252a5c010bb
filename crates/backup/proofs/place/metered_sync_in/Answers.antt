use Rattle.std.proofs.Common.{◌≡◌, sym, refl}
use Rattle.std.proofs.lemmas.Result.{err_from_is_err_and}
use Rattle.backup.specs.Place.{sync_number_in, restated_in}
use Rattle.backup.proofs.Syncing.{lands_few, sync-refused, reports-refused, rounds_refused, sync-done, reports-done, rounds_done}
use Rattle.backup.proofs.place.metered_sync_in.Goals as goal

pub returns-in_err-lands : goal.returns-in_err-lands
returns-in_err-lands c =
    let p = err_from_is_err_and c.from_residual.result c.from_residual.ensures.1 in
    let l = c.args.log.now in
    let h = c.args.head.now in
    let k = c.args.c in
    let r = c.in_err-lands.field-0.0 in
    let e = c.in_err-lands.ensures in
    rw (p.1, p.2)
    (record { called = sync-refused l h k r e; reports = reports-refused l h k r e; one_pass = rounds_refused l h k r e; number_value = e })

pub drop_taken-rounds-requires : goal.drop_taken-rounds-requires
drop_taken-rounds-requires c =
    let a = c.args in
    let z : sync_number_in a.head.now a.c ≡ 0 = sym c.in_ok-lands.ensures in
    rw c.restate.ensures (lands_few a.head.now a.c z)

pub returns : goal.returns
unfolding restated_in
returns c =
    let a = c.args in
    let z : sync_number_in a.head.now a.c ≡ 0 = sym c.in_ok-lands.ensures in
    let l = a.log.now in
    let h = a.head.now in
    let d = c.drop_taken-rounds in
    let w = rw c.restate.ensures at d.ensures in
    let k = sync-done l h d.new.log a.c z w.dropped in
    rw (c.report.ensures, w.head_after)
    (record { called = k; reports = reports-done l h a.c _ _ k refl; one_pass = rounds_done l h a.c d.result w.value; number_value = sym z })
