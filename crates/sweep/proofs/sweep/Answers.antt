-- `sweep`: refused, or counted.
use Rattle.std.proofs.lemmas.Result.{err_from_is_err_and}
use Rattle.sweep.proofs.Sweeping.{refuses_sweep, sweeps}
use Rattle.sweep.proofs.sweep.Goals as goal

pub returns-in_err-admitted : goal.returns-in_err-admitted
returns-in_err-admitted c =
    let p = err_from_is_err_and c.from_residual.result c.from_residual.ensures.1 in
    rw (p.1, p.2) (refuses_sweep c.args.table.now c.args.schedule.now _ c.in_err-admitted.ensures.number_is)

pub count_all-requires : goal.count_all-requires
count_all-requires c = let j = c.in_ok-admitted.ensures.admitted in record { admitted = j.0; records_value = j.1 }

pub returns : goal.returns
returns c =
    let j = c.in_ok-admitted.ensures.admitted in
    sweeps c.args.table.now c.args.schedule.now j.0 j.1 c.count_all.result c.count_all.ensures
