use mathlib.Core.Path.{ap}
use Prim.Native.Nat.{ℕ, ◌+◌}
use Rattle.rules.specs.Bytes.{byte_at}
use Rattle.apart.proofs.Walking.{taking_start, taking_within, placed-room, coded_room, taking_on, placed_end, coded_end}
use native.Mathlib.Omega.{arith}
use Rattle.apart.proofs.take_records.Goals as goal

pub loop-p-init : goal.loop-p-init
loop-p-init c =
    let s = c.args in
    taking_start s.table.now s.at s.version s.processes s.placements.now s.instructions.now c.requires.records.records_ok_lem

pub overflow_add-next : goal.overflow_add-next
overflow_add-next c =
    let s = c.args in
    let l = c.loop-p in
    let t = c.loop-p-test.true in
    let g = c.requires in
    let e = c.length_place-place.ensures.0 in
    let d = c.length_place-place.ensures.1 in
    let y = ap (λ (k : ℕ). byte_at s.table.now (l.next + k)) e in
    let x = taking_within s.table.now s.at s.version s.processes s.placements.now s.instructions.now _ _ l.next l.i l.p l.invariant t in
    omega arith

pub bounds-table-next : goal.bounds-table-next
bounds-table-next c =
    let s = c.args in
    let l = c.loop-p in
    let t = c.loop-p-test.true in
    let g = c.requires in
    let e = c.length_place-place.ensures.0 in
    let d = c.length_place-place.ensures.1 in
    let y = ap (λ (k : ℕ). byte_at s.table.now (l.next + k)) e in
    let x = taking_within s.table.now s.at s.version s.processes s.placements.now s.instructions.now _ _ l.next l.i l.p l.invariant t in
    omega arith

pub overflow_add-next-in-loop-p : goal.overflow_add-next-in-loop-p
overflow_add-next-in-loop-p c =
    let s = c.args in
    let l = c.loop-p in
    let t = c.loop-p-test.true in
    let g = c.requires in
    let e = c.length_place-place.ensures.0 in
    let d = c.length_place-place.ensures.1 in
    let y = ap (λ (k : ℕ). byte_at s.table.now (l.next + k)) e in
    let x = taking_within s.table.now s.at s.version s.processes s.placements.now s.instructions.now _ _ l.next l.i l.p l.invariant t in
    let w = c.byte_wide-n.ensures.0 in
    omega arith

pub take_placement-requires : goal.take_placement-requires
take_placement-requires c =
    let s = c.args in
    let l = c.loop-p in
    let t = c.loop-p-test.true in
    let g = c.requires in
    let e = c.length_place-place.ensures.0 in
    let d = c.length_place-place.ensures.1 in
    let y = ap (λ (k : ℕ). byte_at s.table.now (l.next + k)) e in
    let x = taking_within s.table.now s.at s.version s.processes s.placements.now s.instructions.now _ _ l.next l.i l.p l.invariant t in
    let w = c.byte_wide-n.ensures.0 in
    let u = placed-room s.table.now s.at s.version s.processes s.placements.now s.instructions.now _ _ l.next l.i l.p l.invariant t g.table_in_bounds in
    let z = coded_room s.table.now s.at s.version s.processes s.placements.now s.instructions.now _ _ l.next l.i l.p l.invariant t g.table_in_bounds_2 in
    let q = l.invariant.coded.same_length in
    ((omega arith, omega arith), omega arith)

pub overflow_add-place : goal.overflow_add-place
overflow_add-place c =
    let s = c.args in
    let l = c.loop-p in
    let t = c.loop-p-test.true in
    let g = c.requires in
    let e = c.length_place-place.ensures.0 in
    let d = c.length_place-place.ensures.1 in
    let y = ap (λ (k : ℕ). byte_at s.table.now (l.next + k)) e in
    let x = taking_within s.table.now s.at s.version s.processes s.placements.now s.instructions.now _ _ l.next l.i l.p l.invariant t in
    let w = c.byte_wide-n.ensures.0 in
    omega arith

pub overflow_add-next-in-loop-p-2 : goal.overflow_add-next-in-loop-p-2
overflow_add-next-in-loop-p-2 c =
    let s = c.args in
    let l = c.loop-p in
    let t = c.loop-p-test.true in
    let g = c.requires in
    let e = c.length_place-place.ensures.0 in
    let d = c.length_place-place.ensures.1 in
    let y = ap (λ (k : ℕ). byte_at s.table.now (l.next + k)) e in
    let x = taking_within s.table.now s.at s.version s.processes s.placements.now s.instructions.now _ _ l.next l.i l.p l.invariant t in
    let w = c.byte_wide-n.ensures.0 in
    omega arith

pub take_program-requires : goal.take_program-requires
take_program-requires c =
    let s = c.args in
    let l = c.loop-p in
    let t = c.loop-p-test.true in
    let g = c.requires in
    let e = c.length_place-place.ensures.0 in
    let d = c.length_place-place.ensures.1 in
    let y = ap (λ (k : ℕ). byte_at s.table.now (l.next + k)) e in
    let x = taking_within s.table.now s.at s.version s.processes s.placements.now s.instructions.now _ _ l.next l.i l.p l.invariant t in
    let w = c.byte_wide-n.ensures.0 in
    let u = placed-room s.table.now s.at s.version s.processes s.placements.now s.instructions.now _ _ l.next l.i l.p l.invariant t g.table_in_bounds in
    let z = coded_room s.table.now s.at s.version s.processes s.placements.now s.instructions.now _ _ l.next l.i l.p l.invariant t g.table_in_bounds_2 in
    let q = l.invariant.coded.same_length in
    (omega arith, omega arith)

pub overflow_add-next-in-loop-p-3 : goal.overflow_add-next-in-loop-p-3
overflow_add-next-in-loop-p-3 c =
    let s = c.args in
    let l = c.loop-p in
    let t = c.loop-p-test.true in
    let g = c.requires in
    let e = c.length_place-place.ensures.0 in
    let d = c.length_place-place.ensures.1 in
    let y = ap (λ (k : ℕ). byte_at s.table.now (l.next + k)) e in
    let x = taking_within s.table.now s.at s.version s.processes s.placements.now s.instructions.now _ _ l.next l.i l.p l.invariant t in
    let w = c.byte_wide-n.ensures.0 in
    omega arith

pub overflow_mul-next : goal.overflow_mul-next
overflow_mul-next c =
    let s = c.args in
    let l = c.loop-p in
    let t = c.loop-p-test.true in
    let g = c.requires in
    let e = c.length_place-place.ensures.0 in
    let d = c.length_place-place.ensures.1 in
    let y = ap (λ (k : ℕ). byte_at s.table.now (l.next + k)) e in
    let x = taking_within s.table.now s.at s.version s.processes s.placements.now s.instructions.now _ _ l.next l.i l.p l.invariant t in
    let w = c.byte_wide-n.ensures.0 in
    omega arith

pub overflow_add-next-in-loop-p-4 : goal.overflow_add-next-in-loop-p-4
overflow_add-next-in-loop-p-4 c =
    let s = c.args in
    let l = c.loop-p in
    let t = c.loop-p-test.true in
    let g = c.requires in
    let e = c.length_place-place.ensures.0 in
    let d = c.length_place-place.ensures.1 in
    let y = ap (λ (k : ℕ). byte_at s.table.now (l.next + k)) e in
    let x = taking_within s.table.now s.at s.version s.processes s.placements.now s.instructions.now _ _ l.next l.i l.p l.invariant t in
    let w = c.byte_wide-n.ensures.0 in
    omega arith

pub overflow_add-next-in-loop-p-5 : goal.overflow_add-next-in-loop-p-5
overflow_add-next-in-loop-p-5 c =
    let s = c.args in
    let l = c.loop-p in
    let t = c.loop-p-test.true in
    let g = c.requires in
    let e = c.length_place-place.ensures.0 in
    let d = c.length_place-place.ensures.1 in
    let y = ap (λ (k : ℕ). byte_at s.table.now (l.next + k)) e in
    let x = taking_within s.table.now s.at s.version s.processes s.placements.now s.instructions.now _ _ l.next l.i l.p l.invariant t in
    let w = c.byte_wide-n.ensures.0 in
    omega arith

pub overflow_add-i : goal.overflow_add-i
overflow_add-i c =
    let s = c.args in
    let l = c.loop-p in
    let t = c.loop-p-test.true in
    let g = c.requires in
    let e = c.length_place-place.ensures.0 in
    let d = c.length_place-place.ensures.1 in
    let y = ap (λ (k : ℕ). byte_at s.table.now (l.next + k)) e in
    let x = taking_within s.table.now s.at s.version s.processes s.placements.now s.instructions.now _ _ l.next l.i l.p l.invariant t in
    let w = c.byte_wide-n.ensures.0 in
    let u = placed-room s.table.now s.at s.version s.processes s.placements.now s.instructions.now _ _ l.next l.i l.p l.invariant t g.table_in_bounds in
    let z = coded_room s.table.now s.at s.version s.processes s.placements.now s.instructions.now _ _ l.next l.i l.p l.invariant t g.table_in_bounds_2 in
    let q = l.invariant.coded.same_length in
    omega arith

pub loop-p-preserved : goal.loop-p-preserved
loop-p-preserved c =
    let s = c.args in
    let l = c.loop-p in
    let t = c.loop-p-test.true in
    taking_on s.table.now s.at s.version s.processes s.placements.now s.instructions.now _ _ l.next l.i l.p l.invariant t c.length_place-place.result _ _ _ c.length_place-place.ensures.0 c.byte_wide-n.ensures.0 c.take_placement.ensures c.take_program.ensures

pub returns : goal.returns
returns c =
    let s = c.args in
    let l = c.loop-p in
    let t = c.loop-p-test.false in
    (placed_end s.table.now s.at s.version s.processes s.placements.now s.instructions.now _ _ l.next l.i l.p l.invariant t, coded_end s.table.now s.at s.version s.processes s.placements.now s.instructions.now _ _ l.next l.i l.p l.invariant t)
