use mathlib.Core.Path.{refl, ◌∙◌}
use Rattle.rules.specs.Format.{processes_in}
use Rattle.apart.proofs.Parting.{room-first, room-second, room_third, room_fourth}
use Rattle.apart.proofs.has_room.Goals as goal

pub returns-then-limits_in-limits : goal.returns-then-limits_in-limits
returns-then-limits_in-limits c =
    let s = c.args in
    let g = c.requires in
    room_fourth s.table.now g.0 s.total s.ends s.placements s.limits s.instructions _ _ _ g.1.0 (c.byte_wide.ensures.0 ∙ c.byte.ensures) (c.byte_wide-then-byte_wide-ends.ensures.0 ∙ c.byte-then-byte_wide-ends.ensures) c.limits_in.ensures c.if-byte_wide-ends.true c.if-byte_wide-placements.true c.if-limits_in-limits.true

pub returns-else-limits_in-limits : goal.returns-else-limits_in-limits
returns-else-limits_in-limits c =
    let s = c.args in
    let g = c.requires in
    room_third s.table.now g.0 s.total s.ends s.placements s.limits s.instructions _ _ _ g.1.0 (c.byte_wide.ensures.0 ∙ c.byte.ensures) (c.byte_wide-then-byte_wide-ends.ensures.0 ∙ c.byte-then-byte_wide-ends.ensures) c.limits_in.ensures c.if-byte_wide-ends.true c.if-byte_wide-placements.true c.if-limits_in-limits.false

pub returns-else-byte_wide-placements : goal.returns-else-byte_wide-placements
returns-else-byte_wide-placements c =
    let s = c.args in
    let g = c.requires in
    room-second s.table.now g.0 s.total s.ends s.placements s.limits s.instructions _ _ _ g.1.0 (c.byte_wide.ensures.0 ∙ c.byte.ensures) (c.byte_wide-then-byte_wide-ends.ensures.0 ∙ c.byte-then-byte_wide-ends.ensures) refl c.if-byte_wide-ends.true c.if-byte_wide-placements.false

pub returns-else-byte_wide-ends : goal.returns-else-byte_wide-ends
returns-else-byte_wide-ends c =
    let s = c.args in
    let g = c.requires in
    room-first s.table.now g.0 s.total s.ends s.placements s.limits s.instructions _ (processes_in s.table.now) _ g.1.0 (c.byte_wide.ensures.0 ∙ c.byte.ensures) refl refl c.if-byte_wide-ends.false
