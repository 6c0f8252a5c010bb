-- `ks_label_run`: the label line's run, with what it returned packed.
use Rattle.rules.specs.Run.{buffers_of}
use Rattle.label_line.specs.Labels.{RunsLine}
use Rattle.label_line.proofs.Running.{line-few}
use Rattle.kunzeastylus.proofs.Packing.{few_by, verdict_packed}
use Rattle.kunzeastylus.proofs.label.ks_label_run.Goals as goal

pub packed_run-requires : goal.packed_run-requires
packed_run-requires c =
    let s = c.args in
    let r = c.run_line in
    few_by r.result _ (line-few s.first s.schedule.now (buffers_of s.answers.now s.reasons.now s.report.now s.origins.now) r.result _ r.ensures)

pub returns : goal.returns
returns c =
    let s = c.args in
    let r = c.run_line in
    verdict_packed (λ v. RunsLine s.first s.schedule.now (buffers_of s.answers.now s.reasons.now s.report.now s.origins.now) v _) r.result r.ensures
    c.packed_run.ensures.1 c.packed_run.ensures.0
