use Rattle.command.specs.Judges.{absent_of}
use mathlib.Core.Path.{sym}
use Rattle.command.proofs.Judging.{unknown-absent}
use native.Mathlib.Omega.{arith}
use Rattle.command.proofs.judge.absent_above_3.Goals as goal

pub returns-in-4 : goal.returns-in-4
unfolding absent_of
returns-in-4 c = rw (c.beyond.ensures, c.in-4.is)

pub returns-in-5 : goal.returns-in-5
unfolding absent_of
returns-in-5 c = rw (c.beyond-in-5.ensures, c.in-5.is)

pub returns-in-6 : goal.returns-in-6
unfolding absent_of
returns-in-6 c = rw (c.beyond-in-6.ensures, c.in-6.is)

pub returns-in-7 : goal.returns-in-7
unfolding absent_of
returns-in-7 c = rw (c.beyond-in-7.ensures, c.in-7.is)

pub returns-in_default : goal.returns-in_default
unfolding absent_of
returns-in_default c =
    let above = c.requires in
    sym (unknown-absent c.args.mv (λ e. omega arith) (λ e. omega arith) (λ e. omega arith) (λ e. omega arith) (λ e. omega arith) (λ e. omega arith) (λ e. omega arith) _ _)
