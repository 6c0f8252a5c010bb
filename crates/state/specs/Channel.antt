-- Whether a channel is full, told from its total alone (W-208).
use Rattle.std.specs.Prelude.{ℕ, Bool, not, ◌&&◌, ◌==◌, nat_le}
use Rattle.rules.specs.Table.{environment}
use Rattle.rules.specs.Cabinet.{occupancy_most}

-- "A channel is held when its unread words and those in the queues are 8 or more together. A channel read by the outside is never held."
abbrev pub full_in : ℕ → ℕ → Bool
full_in reader total = not (reader == environment) && nat_le occupancy_most total
