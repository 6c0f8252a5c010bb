use mathlib.Core.Path.{refl, ap, ◌∙◌}
use Prim.Native.Nat.{ℕ}
use native.Mathlib.Omega.{arith}
use lib.Dec.{leb}
use Rattle.table.proofs.OneInstruction.{second, failed, set_is, add_is, take-is, first-is, send-is, jump_is, none_is}
use Rattle.table.proofs.instructions.instruction_ok.Goals as goal

pub returns-in-1 : goal.returns-in-1
returns-in-1 c = set_is _ _ _ _ c.in-1.is

pub returns-then-i-lt4 : goal.returns-then-i-lt4
returns-then-i-lt4 c = second _ 4 _ _ c.if-i-lt4.true refl ∙ add_is _ _ _ _ c.in-2.is

pub returns-else-i-lt4 : goal.returns-else-i-lt4
returns-else-i-lt4 c = failed _ 4 _ c.if-i-lt4.false ∙ add_is _ _ _ _ c.in-2.is

pub returns-then-i-lt4-2 : goal.returns-then-i-lt4-2
returns-then-i-lt4-2 c = second _ 4 _ _ c.if-i-lt4-2.true c.end_is.ensures ∙ take-is _ _ _ _ c.in-3.is

pub returns-else-i-lt4-2 : goal.returns-else-i-lt4-2
returns-else-i-lt4-2 c = failed _ 4 _ c.if-i-lt4-2.false ∙ take-is _ _ _ _ c.in-3.is

pub returns-then-i-lt3 : goal.returns-then-i-lt3
returns-then-i-lt3 c = second _ 3 _ _ c.if-i-lt3.true c.mask_ok.ensures ∙ first-is _ _ _ _ c.in-4.is

pub returns-else-i-lt3 : goal.returns-else-i-lt3
returns-else-i-lt3 c = failed _ 3 _ c.if-i-lt3.false ∙ first-is _ _ _ _ c.in-4.is

pub returns-then-i-lt4-3 : goal.returns-then-i-lt4-3
returns-then-i-lt4-3 c = second _ 4 _ _ c.if-i-lt4-3.true c.end_is-then-i-lt4-3.ensures ∙ send-is _ _ _ _ c.in-5.is

pub returns-else-i-lt4-3 : goal.returns-else-i-lt4-3
returns-else-i-lt4-3 c = failed _ 4 _ c.if-i-lt4-3.false ∙ send-is _ _ _ _ c.in-5.is

pub returns-then-i-lt4-4 : goal.returns-then-i-lt4-4
returns-then-i-lt4-4 c = second _ 4 _ _ c.if-i-lt4-4.true (ap (λ (x : ℕ). leb x c.args.n) c.wide.ensures.0) ∙ jump_is _ _ _ _ c.in-6.is

pub returns-else-i-lt4-4 : goal.returns-else-i-lt4-4
returns-else-i-lt4-4 c = failed _ 4 _ c.if-i-lt4-4.false ∙ jump_is _ _ _ _ c.in-6.is

pub returns-in_default : goal.returns-in_default
returns-in_default c =
    none_is _ _ _ _ (λ e. omega arith) (λ e. omega arith) (λ e. omega arith) (λ e. omega arith) (λ e. omega arith) (λ e. omega arith)
