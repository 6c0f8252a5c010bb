-- `print`: the page of an accepted run, or of a refused one. The number is looked for among the facts.
use native.Mathlib.Omega.{arith}
use Rattle.bench_input.proofs.Printing.{paged_accepted, paged_refused}
use Rattle.bench_input.proofs.bench.print.Goals as goal

pub returns-in-Ok : goal.returns-in-Ok
returns-in-Ok c =
    let s = c.args in
    rw c.in-Ok.is
    (paged_accepted s.processes s.answers.now s.report.now (λ i. (c.type_inv.answers i).fits) (λ i. (c.type_inv.report i).fits) _ c.in-Ok.e (omega arith)
    c.write_page.ensures)

pub returns-in-Err : goal.returns-in-Err
returns-in-Err c =
    let s = c.args in
    rw c.in-Err.is
    (paged_refused s.processes s.answers.now s.report.now (λ i. (c.type_inv.answers i).fits) (λ i. (c.type_inv.report i).fits) _ _ _ c.in-Err.refusal (omega arith)
    c.write_page-in-Err.ensures)
