use mathlib.Core.Path.{sym}
use lib.ListN.{length}
use Rattle.std.proofs.lemmas.Result.{err_from_is_err_and}
use Rattle.apart.specs.Taken.{lent}
use Rattle.apart.proofs.Parting.{taken-nothing, taken-whole, reader_refuses, room_refuses}
use native.Mathlib.Omega.{arith}
use Rattle.apart.proofs.take_apart.Goals as goal

pub returns-in_err-decode : goal.returns-in_err-decode
returns-in_err-decode c =
    let s = c.args in
    let m = lent s.ends.now s.placements.now s.limits.now s.instructions.now in
    let p = err_from_is_err_and c.from_residual.result c.from_residual.ensures.1 in
    let r = c.in_err-decode.field-0.0 in
    rw (p.1, p.2)
    (taken-nothing s.table.now m r (reader_refuses s.table.now (length s.ends.now) (length s.placements.now) (length s.limits.now) (length s.instructions.now) r c.in_err-decode.ensures.number_is))

pub instructions_in-total-requires : goal.instructions_in-total-requires
instructions_in-total-requires c = sym c.in_ok-decode.ensures.number_is

pub has_room-requires : goal.has_room-requires
has_room-requires c = (sym c.in_ok-decode.ensures.number_is, c.instructions_in-total.ensures)

pub returns-then-not-has_room : goal.returns-then-not-has_room
returns-then-not-has_room c =
    let s = c.args in
    let m = lent s.ends.now s.placements.now s.limits.now s.instructions.now in
    let z = sym c.in_ok-decode.ensures.number_is in
    taken-nothing s.table.now m _
    (room_refuses s.table.now (length s.ends.now) (length s.placements.now) (length s.limits.now) (length s.instructions.now) z (sym c.if-not-has_room.ensures))

pub take_lists-requires : goal.take_lists-requires
take_lists-requires c = record {
  table_value = sym c.in_ok-decode.ensures.number_is;
  room = record { room = sym c.if-not-has_room.ensures };
}

pub returns : goal.returns
returns c =
    let s = c.args in
    let m = lent s.ends.now s.placements.now s.limits.now s.instructions.now in
    let z = sym c.in_ok-decode.ensures.number_is in
    taken-whole s.table.now z (record { at = λ i. omega (arith, c.type_inv.table i) }) m _ _ _ _ _ _
    c.byte.ensures c.byte-2.ensures c.byte-3.ensures c.byte-4.ensures c.instructions_in-total.ensures.0
    (record { room = sym c.if-not-has_room.ensures }) c.take_lists.ensures
