use mathlib.Core.Path.{sym}
use Rattle.command.specs.Judges.{absent_of}
use Rattle.command.proofs.Judging.{unknown-absent}
use native.Mathlib.Omega.{arith}
use Rattle.command.proofs.judge.absent.Goals as goal

pub returns-in-1 : goal.returns-in-1
unfolding absent_of
returns-in-1 c = rw (c.beyond.ensures, c.in-1.is)

pub returns-in-2 : goal.returns-in-2
unfolding absent_of
returns-in-2 c = rw (c.beyond-in-2.ensures, c.in-2.is)

pub returns-in-3 : goal.returns-in-3
unfolding absent_of
returns-in-3 c = rw (c.beyond-in-3.ensures, c.in-3.is)

pub returns-else-mv-gt3 : goal.returns-else-mv-gt3
unfolding absent_of
returns-else-mv-gt3 c =
    let most = c.if-mv-gt3.false in
    sym (unknown-absent c.args.mv (λ e. omega arith) (λ e. omega arith) (λ e. omega arith) (λ e. omega arith) (λ e. omega arith) (λ e. omega arith) (λ e. omega arith) _ _)
