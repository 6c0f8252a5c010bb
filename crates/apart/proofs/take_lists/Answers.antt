use mathlib.Core.Path.{ap, ◌∙◌}
use Prim.Native.Nat.{ℕ, ◌*◌}
use Rattle.rules.proofs.Apart.{pairs-within}
use Rattle.apart.specs.Taken.{lent}
use Rattle.apart.proofs.Parting.{ends-long, ends-room, whole-records, placements-fit, limits-fit, instructions-fit, lists_taken}
use native.Mathlib.Omega.{arith}
use Rattle.apart.proofs.take_lists.Goals as goal

pub take_bytes-requires : goal.take_bytes-requires
take_bytes-requires c =
    let s = c.args in
    let g = c.requires in
    let m = lent s.ends.now s.placements.now s.limits.now s.instructions.now in
    let w = pairs-within s.table.now g.table_value in
    let r = ends-room s.table.now g.table_value m g.room in
    let l = ends-long s.table.now g.table_value in
    let e = c.byte_wide-pairs.ensures.0 ∙ c.byte-2.ensures in
    (omega arith, omega arith)

pub take_limits-requires : goal.take_limits-requires
take_limits-requires c =
    let s = c.args in
    let g = c.requires in
    let m = lent s.ends.now s.placements.now s.limits.now s.instructions.now in
    let v = c.version_of-version.ensures in
    let p = ap (λ (k : ℕ). 2 * k) (c.byte_wide-pairs.ensures.0 ∙ c.byte-2.ensures) in
    let q = c.byte_wide-processes.ensures.0 ∙ c.byte.ensures in
    record {
      records = whole-records s.table.now g.table_value m g.room c.version_of-version.result (2 * c.byte_wide-pairs.result) c.byte_wide-processes.result v p q;
      table_in_bounds = limits-fit s.table.now g.table_value m g.room c.version_of-version.result (2 * c.byte_wide-pairs.result) c.byte_wide-processes.result v p q;
    }

pub take_records-requires : goal.take_records-requires
take_records-requires c =
    let s = c.args in
    let g = c.requires in
    let m = lent s.ends.now s.placements.now s.limits.now s.instructions.now in
    let v = c.version_of-version.ensures in
    let p = ap (λ (k : ℕ). 2 * k) (c.byte_wide-pairs.ensures.0 ∙ c.byte-2.ensures) in
    let q = c.byte_wide-processes.ensures.0 ∙ c.byte.ensures in
    record {
      records = whole-records s.table.now g.table_value m g.room c.version_of-version.result (2 * c.byte_wide-pairs.result) c.byte_wide-processes.result v p q;
      table_in_bounds = placements-fit s.table.now g.table_value m g.room c.version_of-version.result (2 * c.byte_wide-pairs.result) c.byte_wide-processes.result v p q;
      table_in_bounds_2 = instructions-fit s.table.now g.table_value m g.room c.version_of-version.result (2 * c.byte_wide-pairs.result) c.byte_wide-processes.result v p q;
    }

pub returns : goal.returns
returns c =
    let s = c.args in
    let g = c.requires in
    let m = lent s.ends.now s.placements.now s.limits.now s.instructions.now in
    let v = c.version_of-version.ensures in
    let p = ap (λ (k : ℕ). 2 * k) (c.byte_wide-pairs.ensures.0 ∙ c.byte-2.ensures) in
    let q = c.byte_wide-processes.ensures.0 ∙ c.byte.ensures in
    lists_taken s.table.now g.table_value m g.room c.version_of-version.result (2 * c.byte_wide-pairs.result) c.byte_wide-processes.result v p q _ c.take_bytes.ensures c.take_records.ensures.0 c.take_limits.ensures c.take_records.ensures.1
