-- W-212: where the word that a record puts on the bus comes from, "sender and place, 255 and 0 for a feed that answers 4, 255 and 255 where no
-- word was on the bus".
use Rattle.std.specs.Prelude.{◌≡◌, ℕ, ◌%◌, ◌<◌, cond, List, ◌==◌, ◌≢◌}
use Rattle.plan.specs.declared.Wire.{Wire}
use Rattle.plan.specs.Plan.{sender_in}
use Rattle.rules.specs.Machine.{Origin, outside}
use Rattle.rules.specs.Moves.{no_origin}
use Rattle.rules.specs.Sizes.{channels_most}
use Rattle.state.specs.declared.entry.Entry.{Entry}
use Rattle.state.specs.declared.entry.Item.{Item}
use Rattle.state.specs.declared.entry.Item.TheVariants.{Word, Sync, Transfer}
use Rattle.bus.specs.declared.origin.Origin as code

-- the rules' origin
abbrev pub origin_in : code.Origin → Origin
origin_in o = record { sender = o.sender; pc = o.place }

-- of a feed, by its answer's code
abbrev pub fed_from : ℕ → Origin
fed_from code = cond (code == 4) outside no_origin

-- Of an entry that left its queue: a word's place stands in it, its sender in its channel's wire; the number of a process fits a byte.
abbrev pub FromEntry : List Wire → Item → Origin → Type 0
FromEntry wires (Word channel word pc) o = channel < channels_most → o ≡ record { sender = sender_in wires channel % 256; pc = pc }
FromEntry wires (Sync process c) o = o ≡ no_origin
FromEntry wires (Transfer process) o = o ≡ no_origin

-- of a carry, by its answer's code and by what stood where the board's oldest entry does before it
pub record CarriedFrom (wires : List Wire) (code : ℕ) (oldest : Entry) (o : Origin) : Type 0 where
  pub on_bus_lem : code ≡ 4 → FromEntry wires oldest.item o
  pub off_bus : (code ≢ 4) → o ≡ no_origin
