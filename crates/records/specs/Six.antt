-- Six bytes, the layout of an instruction and of a schedule record, as the code has them.
use Rattle.std.specs.Prelude.{List, ℕ, ◌+◌, ◌/◌, length, get_or}
use Rattle.rules.specs.Bytes.{byte_at, number32, sixes}
use Rattle.records.specs.declared.six.Six.{Six}

abbrev pub six : ℕ → ℕ → ℕ → Six
six first second word = record { first = first; second = second; word = word }

-- the k-th of a part's whole sixes; zeros past the last
unfoldable pub six_of : List ℕ → ℕ → Six
six_of part k = get_or (sixes six (length part / 6) part) k (six 0 0 0)

-- those from byte i on
abbrev pub six_at : List ℕ → ℕ → Six
six_at bytes i =
    six (byte_at bytes i) (byte_at bytes (i + 1))
    (number32 (byte_at bytes (i + 2)) (byte_at bytes (i + 3)) (byte_at bytes (i + 4)) (byte_at bytes (i + 5)))
