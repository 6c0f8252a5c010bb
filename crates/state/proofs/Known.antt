-- What a cabinet that commands reach is known by: the rules' invariant beside some reference machine, and the room.
use Rattle.std.proofs.Common.{[], sym, subst}
use Rattle.rules.specs.Table.{Table}
use Rattle.rules.specs.Reference.{Reference}
use Rattle.rules.specs.Cabinet.{Cabinet}
use Rattle.rules.proofs.Invariant.{Invariant}
use Rattle.rules.proofs.Room.{Room}
use Rattle.rules.proofs.Start.{reached}
use Rattle.state.specs.Moved.{Reachable}

pub record Known (t : Table) (c : Cabinet) : Type 0 where
  pub reference : Reference
  pub invariant : Invariant t c reference
  pub room : Room t [] c

module _ {t : Table} {c : Cabinet} (r : Reachable t c) where
  pub known : Known t c
  known =
      subst (Known t) (sym r.is-reached)
      (let f = reached t r.accepted r.commands in record { reference = f.follows.end; invariant = f.follows.invariant; room = f.room })
