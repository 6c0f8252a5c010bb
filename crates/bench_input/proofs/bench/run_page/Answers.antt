use mathlib.Core.Path.{◌∙◌}
use Rattle.bench_input.proofs.Printing.{run_page_lem}
use Rattle.bench_input.proofs.bench.run_page.Goals as goal

pub returns : goal.returns
returns c =
    let s = c.args in
    run_page_lem s.table.now s.schedule.now c.run-ended.result _ c.run-ended.ensures c.byte_wide-processes.result (c.byte_wide-processes.ensures.0 ∙ c.byte.ensures) _ _ _ c.print.ensures
