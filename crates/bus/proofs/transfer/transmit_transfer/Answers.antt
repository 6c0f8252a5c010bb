use Rattle.bus.proofs.Transferring.{transfers_so_beside}
use Rattle.bus.proofs.transfer.transmit_transfer.Goals as goal

pub returns : goal.returns
returns c =
    let s = c.args in
    let p = c.index-p in
    rw c.answer_for.ensures (transfers_so_beside s.store.now s.process p.result p.ensures.1 c.end_transfer.new.self c.end_transfer.ensures.exact)
