use mathlib.Core.Path.{sym}
use Rattle.command.proofs.Judging.{known-stray, unknown-stray}
use native.Mathlib.Omega.{arith}
use Rattle.command.proofs.judge.stray.Goals as goal

pub returns-in-1-to-7 : goal.returns-in-1-to-7
returns-in-1-to-7 c = sym (known-stray c.args.mv (omega arith) (omega arith))

pub returns-in_default : goal.returns-in_default
returns-in_default c = sym (unknown-stray c.args.mv (λ e. omega arith) (λ e. omega arith) (λ e. omega arith) (λ e. omega arith) (λ e. omega arith) (λ e. omega arith) (λ e. omega arith))

pub returns-in_default-2 : goal.returns-in_default-2
returns-in_default-2 c = sym (unknown-stray c.args.mv (λ e. omega arith) (λ e. omega arith) (λ e. omega arith) (λ e. omega arith) (λ e. omega arith) (λ e. omega arith) (λ e. omega arith))
