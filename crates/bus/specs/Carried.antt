-- Move 3 with where the word comes from that it puts on the bus.
use Rattle.std.specs.Prelude.{ℕ}
use Rattle.plan.specs.declared.Plan.{Plan}
use Rattle.state.specs.declared.entry.Entry.{Entry}
use Rattle.state.specs.declared.store.Store.{Store}
use Rattle.bus.specs.declared.carry.Carried.{Carried}
use Rattle.bus.specs.Origins.{origin_in, CarriedFrom}
use Rattle.bus.specs.Transmits.{Transmits}

pub record CarriedBy (l : Plan) (s : Store) (a : ℕ) (oldest : Entry) (s' : Store) (r : Carried) : Type 0 where
  pub transmits : Transmits l s a oldest s' r.answer
  pub from_there : CarriedFrom l.wires r.answer.code oldest (origin_in r.origin)
