use Rattle.rules.specs.Transparency.{read_answers}
use Rattle.rules.specs.Page.{answer_lines}
use Rattle.page.proofs.Putting.{Going}
use Rattle.page.proofs.Lining.{answers_from}
use Rattle.page.proofs.lines.put_answers.Given as goal

abbrev pub invariant-loop-i : goal.invariant-loop-i
invariant-loop-i l = Going (answer_lines 1 (read_answers l.records l.answers)) l.initial.out l.at (answers_from l.records l.answers l.i) l.out l.to
