-- `ks_table_apart`: the promise of taking apart, with what it returned packed.
use Rattle.apart.specs.Taken.{lent}
use Rattle.apart.proofs.Parting.{few-instructions}
use Rattle.kunzeastylus.proofs.Tabling.{takes_packed}
use Rattle.kunzeastylus.proofs.tables.ks_table_apart.Goals as goal

pub pack_taken-requires : goal.pack_taken-requires
pack_taken-requires c = let s = c.args in let r = c.take_apart in few-instructions s.table.now (lent s.ends.now s.placements.now s.limits.now s.instructions.now) _ r.result r.ensures

pub returns : goal.returns
returns c =
    let s = c.args in
    let r = c.take_apart in
    let p = c.pack_taken in
    takes_packed s.table.now (lent s.ends.now s.placements.now s.limits.now s.instructions.now) r.result _ r.ensures p.ensures.1 p.ensures.0
