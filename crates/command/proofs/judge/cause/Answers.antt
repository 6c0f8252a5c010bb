use Rattle.command.specs.Judges.{cause_by}
use mathlib.Core.Path.{sym, ◌∙◌}
use native.Mathlib.Omega.{arith}
use Rattle.command.proofs.Answering.{unknown_cause}
use Rattle.command.proofs.judge.cause.Goals as goal

pub returns-in-1 : goal.returns-in-1
unfolding cause_by
returns-in-1 c = rw (c.fault.ensures, c.in-1.is)

pub returns-in-2 : goal.returns-in-2
unfolding cause_by
returns-in-2 c = rw (c.fault-in-2.ensures, c.in-2.is)

pub returns-in-3 : goal.returns-in-3
unfolding cause_by
returns-in-3 c = rw (c.fault-in-3.ensures, c.in-3.is)

pub returns-in-4 : goal.returns-in-4
unfolding cause_by
returns-in-4 c = rw (c.fault-in-4.ensures, c.in-4.is)

pub returns-in-5 : goal.returns-in-5
unfolding cause_by
returns-in-5 c = rw (c.fault-in-5.ensures, c.in-5.is)

pub returns-in-6 : goal.returns-in-6
unfolding cause_by
returns-in-6 c = rw (c.fault-in-6.ensures, c.in-6.is)

pub returns-in-7 : goal.returns-in-7
unfolding cause_by
returns-in-7 c = rw (c.fault-in-7.ensures, c.in-7.is)

pub returns-in_default : goal.returns-in_default
unfolding cause_by
returns-in_default c = c.cause_for.ensures ∙ sym (unknown_cause c.args.mv (λ e. omega arith) (λ e. omega arith) (λ e. omega arith) (λ e. omega arith) (λ e. omega arith) (λ e. omega arith) (λ e. omega arith) _)
