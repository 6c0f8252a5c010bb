use mathlib.Core.Path.{refl, ◌∙◌}
use Rattle.rules.proofs.Apart.{length-apart}
use Rattle.apart.proofs.Parting.{limits-long, counted-instructions}
use native.Mathlib.Omega.{arith}
use Rattle.apart.proofs.instructions_in.Goals as goal

pub overflow_sub-result : goal.overflow_sub-result
overflow_sub-result c = let k = length-apart c.args.table.now c.requires in omega arith

pub overflow_sub-result-2 : goal.overflow_sub-result-2
overflow_sub-result-2 c = let k = length-apart c.args.table.now c.requires in omega arith

pub overflow_sub-result-3 : goal.overflow_sub-result-3
overflow_sub-result-3 c = let k = length-apart c.args.table.now c.requires in omega arith

pub overflow_sub-result-4 : goal.overflow_sub-result-4
overflow_sub-result-4 c =
    let k = length-apart c.args.table.now c.requires in
    let m = limits-long c.args.table.now c.requires in
    let e = c.limits_in.ensures in
    omega arith

pub returns : goal.returns
returns c =
    counted-instructions c.args.table.now _ c.byte_wide.result c.byte_wide-2.result c.limits_in.result c.requires
    (c.byte_wide.ensures.0 ∙ c.byte.ensures) (c.byte_wide-2.ensures.0 ∙ c.byte-2.ensures) c.limits_in.ensures refl
