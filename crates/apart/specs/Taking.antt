-- What the private steps of `take_apart` ask and give.
use Rattle.std.specs.Prelude.{◌≡◌, Bool, true, ◌&&◌, List, ℕ, leb, length}
use Rattle.rules.specs.Format.{records_ok}
use Rattle.rules.specs.Encode.{apart}
use Rattle.apart.specs.Taken.{Lent, written_in}

-- so many whole records
pub record Records (version processes : ℕ) (rest : List ℕ) : Type 0 where
  pub records_ok_lem : records_ok version processes rest ≡ true

-- lists of so many numbers have room for the table's
abbrev pub room_for : List ℕ → ℕ → ℕ → ℕ → ℕ → Bool
room_for table ends placements limits instructions =
    leb (length (apart table).ends) ends
    && (leb (length (apart table).placements) placements
    && (leb (length (apart table).limits) limits && leb (length (apart table).instructions) instructions))

pub record Room (table : List ℕ) (m : Lent) : Type 0 where
  pub room : room_for table (length m.ends) (length m.placements) (length m.limits) (length m.instructions) ≡ true

-- the table's lists at the fronts of the lent ones
pub record ListsTaken (table : List ℕ) (before after : Lent) : Type 0 where
  pub taken : after ≡ written_in (apart table) before
