use Rattle.bus.proofs.Delivering.{delivers}
use Rattle.bus.proofs.delivery.deliver.Goals as goal

pub returns : goal.returns
returns c =
    let s = c.args in
    let k = c.index-k in
    let p = c.index-p in
    delivers s.plan.now s.store.now s.channel s.word k.result c.reader.result p.result c.port.result
    k.ensures.1 (c.reader.ensures k.ensures.0) p.ensures.1 (c.port.ensures k.ensures.0) c.receive.new.self c.receive.ensures
