-- `ks_run`: the run's promise, with what it returned packed.
use Rattle.rules.specs.Run.{buffers_of}
use Rattle.cabinet.specs.Runs.{Runs}
use Rattle.kunzeastylus.proofs.Packing.{few, verdict_packed}
use Rattle.kunzeastylus.proofs.run.ks_run.Goals as goal

pub packed_run-requires : goal.packed_run-requires
packed_run-requires c =
    let s = c.args in
    let r = c.run in
    few s.table.now s.schedule.now (buffers_of s.answers.now s.reasons.now s.report.now s.origins.now) r.result _ r.ensures

pub returns : goal.returns
returns c =
    let s = c.args in
    let r = c.run in
    verdict_packed (λ v. Runs s.table.now s.schedule.now (buffers_of s.answers.now s.reasons.now s.report.now s.origins.now) v _) r.result r.ensures
    c.packed_run.ensures.1 c.packed_run.ensures.0
