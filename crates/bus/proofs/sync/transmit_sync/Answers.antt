use Rattle.std.proofs.Common.{true, false, sym, ◌∙◌}
use Rattle.bus.proofs.Syncing.{syncs_so_beside}
use Rattle.bus.proofs.sync.transmit_sync.Goals as goal

pub returns-then-not-is_backed : goal.returns-then-not-is_backed
returns-then-not-is_backed c =
    let s = c.args in
    let p = c.index-p in
    let k = c.keep-dropped in
    rw c.answer_for.ensures
    (syncs_so_beside s.store.now s.process s.checkpoint p.result p.ensures.1 k.new.self k.ensures.backup_became k.result k.ensures.drops k.ensures.rest_stays
    false (sym c.is_backed.ensures ∙ c.if-not-is_backed.true))

pub returns : goal.returns
returns c =
    let s = c.args in
    let p = c.index-p in
    let k = c.keep-dropped in
    rw c.answer_for-2.ensures
    (syncs_so_beside s.store.now s.process s.checkpoint p.result p.ensures.1 k.new.self k.ensures.backup_became k.result k.ensures.drops k.ensures.rest_stays
    true (sym c.is_backed.ensures ∙ c.if-not-is_backed.false))
