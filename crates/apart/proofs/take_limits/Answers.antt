use mathlib.Core.Path.{ap, sym, ◌∙◌}
use Prim.Native.Nat.{ℕ, ◌+◌}
use lib.Seq.{sets}
use borrow.Author.Tests.{eq-eqb, ne_eqb}
use Rattle.apart.proofs.Walking.{no_limits, record_length-lent, limits_start, limit-within, limit-room, limits-more, limits-end}
use native.Mathlib.Omega.{arith}
use Rattle.apart.proofs.take_limits.Goals as goal

pub returns-then-version-ne-WITH_LIMITS : goal.returns-then-version-ne-WITH_LIMITS
returns-then-version-ne-WITH_LIMITS c =
    let s = c.args in
    sym (ap (sets s.limits.now 0) (no_limits s.version s.processes _ (ne_eqb s.version 2 c.if-version-ne-WITH_LIMITS.true)))

pub loop-p-init : goal.loop-p-init
loop-p-init c =
    let s = c.args in
    limits_start s.table.now s.at s.version s.processes s.limits.now c.requires.records.records_ok_lem

pub overflow_add-next : goal.overflow_add-next
overflow_add-next c =
    let s = c.args in
    let l = c.loop-p in
    let x = limit-within s.table.now s.at s.version s.processes s.limits.now (eq-eqb s.version 2 c.if-version-ne-WITH_LIMITS.false) _ l.next l.p l.invariant c.loop-p-test.true in
    let y = limit-room s.table.now s.at s.version s.processes s.limits.now (eq-eqb s.version 2 c.if-version-ne-WITH_LIMITS.false) _ l.next l.p l.invariant c.loop-p-test.true c.requires.table_in_bounds in
    omega arith

pub bounds-table-next : goal.bounds-table-next
bounds-table-next c =
    let s = c.args in
    let l = c.loop-p in
    let x = limit-within s.table.now s.at s.version s.processes s.limits.now (eq-eqb s.version 2 c.if-version-ne-WITH_LIMITS.false) _ l.next l.p l.invariant c.loop-p-test.true in
    let y = limit-room s.table.now s.at s.version s.processes s.limits.now (eq-eqb s.version 2 c.if-version-ne-WITH_LIMITS.false) _ l.next l.p l.invariant c.loop-p-test.true c.requires.table_in_bounds in
    omega arith

pub bounds-limits-p : goal.bounds-limits-p
bounds-limits-p c =
    let s = c.args in
    let l = c.loop-p in
    let x = limit-within s.table.now s.at s.version s.processes s.limits.now (eq-eqb s.version 2 c.if-version-ne-WITH_LIMITS.false) _ l.next l.p l.invariant c.loop-p-test.true in
    let y = limit-room s.table.now s.at s.version s.processes s.limits.now (eq-eqb s.version 2 c.if-version-ne-WITH_LIMITS.false) _ l.next l.p l.invariant c.loop-p-test.true c.requires.table_in_bounds in
    omega arith

pub slice_bounds-record_length-count : goal.slice_bounds-record_length-count
slice_bounds-record_length-count c =
    let s = c.args in
    let l = c.loop-p in
    let x = limit-within s.table.now s.at s.version s.processes s.limits.now (eq-eqb s.version 2 c.if-version-ne-WITH_LIMITS.false) _ l.next l.p l.invariant c.loop-p-test.true in
    let y = limit-room s.table.now s.at s.version s.processes s.limits.now (eq-eqb s.version 2 c.if-version-ne-WITH_LIMITS.false) _ l.next l.p l.invariant c.loop-p-test.true c.requires.table_in_bounds in
    omega arith

pub slice_bounds-record_length-start : goal.slice_bounds-record_length-start
slice_bounds-record_length-start c =
    let s = c.args in
    let l = c.loop-p in
    let x = limit-within s.table.now s.at s.version s.processes s.limits.now (eq-eqb s.version 2 c.if-version-ne-WITH_LIMITS.false) _ l.next l.p l.invariant c.loop-p-test.true in
    let y = limit-room s.table.now s.at s.version s.processes s.limits.now (eq-eqb s.version 2 c.if-version-ne-WITH_LIMITS.false) _ l.next l.p l.invariant c.loop-p-test.true c.requires.table_in_bounds in
    omega arith

pub overflow_add-next-in-loop-p : goal.overflow_add-next-in-loop-p
overflow_add-next-in-loop-p c =
    let s = c.args in
    let l = c.loop-p in
    let x = limit-within s.table.now s.at s.version s.processes s.limits.now (eq-eqb s.version 2 c.if-version-ne-WITH_LIMITS.false) _ l.next l.p l.invariant c.loop-p-test.true in
    let y = limit-room s.table.now s.at s.version s.processes s.limits.now (eq-eqb s.version 2 c.if-version-ne-WITH_LIMITS.false) _ l.next l.p l.invariant c.loop-p-test.true c.requires.table_in_bounds in
    let z = record_length-lent s.version s.table.now l.next in
    let e = c.record_length-next.ensures ∙ z in
    omega arith

pub loop-p-preserved : goal.loop-p-preserved
loop-p-preserved c =
    let s = c.args in
    let l = c.loop-p in
    limits-more s.table.now s.at s.version s.processes s.limits.now (eq-eqb s.version 2 c.if-version-ne-WITH_LIMITS.false) _ l.next l.p l.invariant c.loop-p-test.true _ _ c.byte_word.ensures.0
    (ap (λ (k : ℕ). l.next + k) (c.record_length-next.ensures ∙ record_length-lent s.version s.table.now l.next))

pub returns : goal.returns
returns c =
    let s = c.args in
    let l = c.loop-p in
    limits-end s.table.now s.at s.version s.processes s.limits.now (eq-eqb s.version 2 c.if-version-ne-WITH_LIMITS.false) _ l.next l.p l.invariant c.loop-p-test.false
