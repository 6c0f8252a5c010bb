-- `ks_sweep`: the sweep's promise, with what it returned packed.
use Rattle.sweep.proofs.Sweeping.{swept-few}
use Rattle.kunzeastylus.proofs.Sweeping.{sweeps_packed}
use Rattle.kunzeastylus.proofs.swept.ks_sweep.Goals as goal

pub pack_swept-requires : goal.pack_swept-requires
pack_swept-requires c =
    let s = c.args in
    let r = c.sweep in
    swept-few s.table.now s.schedule.now r.result r.ensures

pub returns : goal.returns
returns c =
    let s = c.args in
    let r = c.sweep in
    let p = c.pack_swept in
    sweeps_packed s.table.now s.schedule.now r.result r.ensures (swept-few s.table.now s.schedule.now r.result r.ensures)
    p.ensures.1 p.ensures.0
