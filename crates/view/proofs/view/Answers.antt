-- `view`: refused, or shown.
use Prim.Native.Nat.{ℕ}
use lib.ListN.{length-replicate}
use Rattle.std.proofs.lemmas.Result.{err_from_is_err_and}
use Rattle.view.proofs.Viewing.{refuses_view, room_for_view, room_for_answers, accepts}
use Rattle.view.proofs.view.Goals as goal

pub returns-in_err-decoded : goal.returns-in_err-decoded
returns-in_err-decoded c =
    let p = err_from_is_err_and c.from_residual.result c.from_residual.ensures.1 in
    rw (p.1, p.2) (refuses_view c.args.table.now c.args.schedule.now c.args.out.now _ c.in_err-decoded.ensures.number_is)

pub show-requires : goal.show-requires
show-requires c =
    let s = c.args in
    let ok = c.in_ok-decoded.ensures.number_is in
    record {
      roomy = room_for_answers s.table.now s.schedule.now s.out.now ok _ _ _ (length-replicate {A = ℕ} 60000 0) (length-replicate {A = ℕ} 10000 0) (length-replicate {A = ℕ} 20000 0);
      view_most_in_bounds = room_for_view s.table.now s.schedule.now s.out.now ok;
    }

pub returns : goal.returns
returns c =
    let j = c.in_ok-decoded.ensures in
    accepts c.args.table.now c.args.schedule.now c.args.out.now j.number_is j.decoded _ c.show.ensures
