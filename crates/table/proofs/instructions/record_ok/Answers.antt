use mathlib.Core.Path.{◌∙◌}
use native.Mathlib.Omega.{arith}
use Rattle.table.proofs.Walk.{lent_program}
use Rattle.table.proofs.instructions.record_ok.Goals as goal

pub slice_bounds-program_ok-count : goal.slice_bounds-program_ok-count
slice_bounds-program_ok-count c = omega (arith, c.record_head-head.ensures.0, c.requires.1)

pub slice_bounds-program_ok-start : goal.slice_bounds-program_ok-start
slice_bounds-program_ok-start c = omega (arith, c.record_head-head.ensures.0, c.requires.1)

pub returns : goal.returns
returns c =
    let s = c.args in
    c.program_ok.ensures ∙ lent_program _ s.version s.p _ _ s.rest.now (c.byte_wide-n.ensures.0 ∙ c.program_length.ensures) c.record_head-head.ensures.0
