-- `judge_buffers`: test by test. What was judged before is looked for among the facts, whichever test told it.
use native.Mathlib.Omega.{arith}
use Rattle.cabinet.proofs.Judging.{answers_short, reasons_short, report_short, origins_short, long_enough}
use Rattle.cabinet.proofs.judge.judge_buffers.Goals as goal

pub returns-then-answers-records : goal.returns-then-answers-records
returns-then-answers-records c = answers_short _ _ _ c.if-answers-records.true

pub returns-then-reasons-records : goal.returns-then-reasons-records
returns-then-reasons-records c = reasons_short _ _ _ c.if-answers-records.false c.if-reasons-records.true

pub returns-then-report-processes : goal.returns-then-report-processes
returns-then-report-processes c = report_short c.args.records c.args.processes c.args.lengths (omega arith) (omega arith) c.if-report-processes.true

pub returns-then-origins-records : goal.returns-then-origins-records
returns-then-origins-records c =
    origins_short c.args.records c.args.processes c.args.lengths (omega arith) (omega arith) (omega arith) c.if-origins-records.true

pub returns : goal.returns
returns c = long_enough c.args.records c.args.processes c.args.lengths (omega arith) (omega arith) (omega arith) (omega arith)
