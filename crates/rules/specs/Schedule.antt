-- A schedule in bytes: its commands, and the number that refuses it (document 01, "The cabinet's moves" and "What each move replies").
use Rattle.std.specs.Prelude.{Bool, ◌&&◌, List, ℕ, ◌+◌, ◌-◌, ◌*◌, ◌/◌, eqb, leb, length, drop}
pub use Rattle.rules.specs.Sizes.{commands_most, schedule_head}
use Rattle.rules.specs.Bytes.{sixes}
use Rattle.rules.specs.Format.{length_field, version_in, or_number}
use Rattle.rules.specs.Moves.{Command}

-- "A schedule has the same two length bytes, version 1, then 0 to 10,000 records of six bytes": the whole records behind the version
abbrev pub commands_in : List ℕ → ℕ
commands_in bytes = (length bytes - schedule_head) / 6

-- "records of six bytes: move, a, word"
abbrev pub command : ℕ → ℕ → ℕ → Command
command move a word = record { move = move; a = a; word = word }

unfoldable pub decode_schedule : List ℕ → List Command
decode_schedule bytes = sixes command (commands_in bytes) (drop schedule_head bytes)

-- 9: "schedule under 3 bytes, wrong length field, broken record or over 10,000"
unfoldable pub schedule_ok : List ℕ → Bool
schedule_ok bytes =
    leb schedule_head (length bytes)
    && (eqb (2 + length_field bytes) (length bytes)
    && (eqb (schedule_head + 6 * commands_in bytes) (length bytes)
    && leb (commands_in bytes) commands_most))

-- 0, or the number that refuses the schedule; 10 is "its version"
unfoldable pub validate_schedule : List ℕ → ℕ
unfolding schedule_ok
validate_schedule bytes = or_number (schedule_ok bytes) 9 (or_number (eqb (version_in bytes) 1) 10 0)
