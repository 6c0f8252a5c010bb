use mathlib.Core.Path.{sym}
use Rattle.bench.proofs.Taking.{two_there, took-few, took_two, took_all, one_after_other, whole, first_two}
use native.Mathlib.Omega.{arith}
use Rattle.bench.proofs.read_input.Goals as goal

pub returns-then-first-lt2-clause-took : goal.returns-then-first-lt2-clause-took
returns-then-first-lt2-clause-took g c = took-few _ _ _ c.if-input-lt2.false c.read_part-first.ensures.filled c.if-first-lt2.true

pub slice_bounds-wanted-end-2 : goal.slice_bounds-wanted-end-2
slice_bounds-wanted-end-2 g c = two_there _ _ _ c.if-input-lt2.false c.read_part-first.ensures.filled

pub returns-then-end-le2-clause-took : goal.returns-then-end-le2-clause-took
returns-then-end-le2-clause-took g c = took_two _ _ _ c.if-input-lt2.false c.read_part-first.ensures.filled

pub returns-clause-took : goal.returns-clause-took
returns-clause-took g c = took_all _ _ _ c.if-input-lt2.false c.read_part-first.ensures.filled _ c.wanted.ensures.is _ (let e = c.least-end.ensures in (omega arith, omega arith)) _ _ c.read_part.ensures.filled

pub returns-then-first-lt2-clause-in_order : goal.returns-then-first-lt2-clause-in_order
returns-then-first-lt2-clause-in_order g c = c.read_part-first.ensures.in_order

pub returns-then-end-le2-clause-in_order : goal.returns-then-end-le2-clause-in_order
returns-then-end-le2-clause-in_order g c =
    let f = c.read_part-first in
    rw (first_two _ _ f.result f.ensures.filled c.if-first-lt2.false) at f.ensures.in_order

pub returns-clause-in_order : goal.returns-clause-in_order
returns-clause-in_order g c =
    let f = c.read_part-first in
    let r = c.read_part in
    let h = rw (first_two _ _ f.result f.ensures.filled c.if-first-lt2.false) at f.ensures.in_order in
    rw (sym (whole _ _ _ _ r.ensures.filled)) (one_after_other _ _ _ _ _ h r.ensures.in_order)
