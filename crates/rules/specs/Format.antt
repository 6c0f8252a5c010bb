-- A table in bytes: what it says, and the number that refuses it (document 01, "The table" and "What each move replies").
-- "A refused one, lowest number first": each number is judged over the whole table before the next.
use Rattle.std.specs.Prelude.{Bool, cond, ◌&&◌, ◌||◌, List, [], ◌∷◌, map, ℕ, zero, suc, ◌+◌, ◌*◌, eqb, leb, length, drop}
use Rattle.backup.specs.Limits.{pc_most}
pub use Rattle.rules.specs.Sizes.{table_most, boards_least, boards_most, processes_most, channels_most, with_limits, length_place}
pub use Rattle.rules.specs.Sizes.{record_head, limit_before}
use Rattle.rules.specs.Table.{Channel, Instruction, SET, ADD, TAKE, FIRST, SEND, JUMP, NONE, Placement, Table}
use Rattle.rules.specs.Cabinet.{is_empty}
use Rattle.rules.specs.Judge.{ends_ok, inputs_ok, boards_ok, instructions_ok, limits_ok}
use Rattle.rules.specs.Bytes.{byte_at, number16, sixes}

-- ---- where things stand

-- "Bytes 0 and 1: the length of all that follows them"
abbrev pub length_field : List ℕ → ℕ
length_field bytes = number16 (byte_at bytes 0) (byte_at bytes 1)

-- "Byte 2: version 1.", or 2 since W-207. "Byte 3: boards B, 2 to 16. Byte 4: processes P, 1 to 16. Byte 5: channels C, 1 to 32."
abbrev pub version_in : List ℕ → ℕ
version_in bytes = byte_at bytes 2

abbrev pub boards_in : List ℕ → ℕ
boards_in bytes = byte_at bytes 3

abbrev pub processes_in : List ℕ → ℕ
processes_in bytes = byte_at bytes 4

abbrev pub channels_in : List ℕ → ℕ
channels_in bytes = byte_at bytes 5

-- "Then C pairs, sender and reader": the first n pairs of a list
abbrev pub pairs : ℕ → List ℕ → List Channel
pairs zero rest = []
pairs (suc n) rest = record { sender = byte_at rest 0; reader = byte_at rest 1 } ∷ pairs n (drop 2 rest)

-- "Then one record for each process": the table from the first record on
abbrev pub records_start : List ℕ → ℕ
records_start bytes = 6 + 2 * channels_in bytes

abbrev pub record_bytes : List ℕ → List ℕ
record_bytes bytes = drop (records_start bytes) bytes

-- "primary board, backup board, n (0 to 64), and n instructions of six bytes": of the record that begins a list, in a table of a version
abbrev pub program_length : ℕ → List ℕ → ℕ
program_length version rest = byte_at rest (length_place version)

abbrev pub record_length : ℕ → List ℕ → ℕ
record_length version rest = record_head version + 6 * program_length version rest

-- the table's rest from each record's start, for n records
abbrev pub rests : ℕ → ℕ → List ℕ → List (List ℕ)
rests version zero rest = []
rests version (suc n) rest = rest ∷ rests version n (drop (record_length version rest) rest)

-- ---- what it says

-- the instruction of a code, `a` and an operand
abbrev pub instruction : ℕ → ℕ → ℕ → Instruction
instruction zero a operand = NONE
instruction (suc zero) a operand = SET a operand
instruction (suc (suc zero)) a operand = ADD a operand
instruction (suc (suc (suc zero))) a operand = TAKE a operand
instruction (suc (suc (suc (suc zero)))) a operand = FIRST a operand
instruction (suc (suc (suc (suc (suc zero))))) a operand = SEND a operand
instruction (suc (suc (suc (suc (suc (suc zero)))))) a operand = JUMP a operand
instruction (suc (suc (suc (suc (suc (suc (suc n))))))) a operand = NONE

-- W-207: "Version 1 is read as limit 8 throughout."
abbrev pub limit_said : ℕ → ℕ → ℕ
limit_said version byte = cond (with_limits version) byte limit_before

-- the placement of the record that begins a list; W-207: "a limit byte [..] between the backup board and n"
abbrev pub placement_in : ℕ → List ℕ → Placement
placement_in version rest = record {
  primary = byte_at rest 0;
  standby = byte_at rest 1;
  limit = limit_said version (byte_at rest 2);
  code = sixes instruction (program_length version rest) (drop (record_head version) rest);
}

unfoldable pub decode_table : List ℕ → Table
decode_table bytes = record {
  boards = boards_in bytes;
  channels = pairs (channels_in bytes) (drop 6 bytes);
  processes = map (placement_in (version_in bytes)) (rests (version_in bytes) (processes_in bytes) (record_bytes bytes));
}

-- ---- numbers 1 to 8, and 47

-- a test, and the number that refuses what fails it; what passes is looked at further
abbrev pub or_number : Bool → ℕ → ℕ → ℕ
or_number test number further = cond test further number

-- 1: "table under 6 bytes, length field over 6,260 or not the true one"; W-207: over 6,276
unfoldable pub length_ok : List ℕ → Bool
length_ok bytes = leb 6 (length bytes) && (leb (length_field bytes) table_most && eqb (2 + length_field bytes) (length bytes))

-- W-207: "2 means a version other than 1 or 2"
abbrev pub version_ok : ℕ → Bool
version_ok version = eqb version 1 || eqb version 2

-- 3: "B, P or C"
abbrev pub counts_fit : ℕ → ℕ → ℕ → Bool
counts_fit boards processes channels =
    (leb boards_least boards && leb boards boards_most)
    && ((leb 1 processes && leb processes processes_most)
    && (leb 1 channels && leb channels channels_most))

unfoldable pub counts_ok : List ℕ → Bool
counts_ok bytes = counts_fit (boards_in bytes) (processes_in bytes) (channels_in bytes)

-- n records have at most 64 instructions each and end exactly where the list ends
-- (past the list's end a byte is 0, so a record that lacks its n is a head alone and isn't within it)
abbrev pub records_ok : ℕ → ℕ → List ℕ → Bool
records_ok version zero rest = is_empty rest
records_ok version (suc n) rest =
    leb (program_length version rest) pc_most
    && (leb (record_length version rest) (length rest) && records_ok version n (drop (record_length version rest) rest))

-- 4: "n over 64, or pairs and records not ending exactly with the table"
unfoldable pub extent_ok : List ℕ → Bool
extent_ok bytes = leb (records_start bytes) (length bytes) && records_ok (version_in bytes) (processes_in bytes) (record_bytes bytes)

-- 5 to 8, of what a table says: "channel ends"; "more than four channels read"; "a board not below B, or primary equal to backup"; "an
-- instruction". W-207: "47, a limit outside 1 to 16, checked after 8"
abbrev pub table_number : Table → ℕ
table_number t =
    or_number (ends_ok t) 5
    (or_number (inputs_ok t) 6
    (or_number (boards_ok t) 7
    (or_number (instructions_ok t) 8
    (or_number (limits_ok t) 47
    0))))

-- 0, or the number that refuses the table.
unfoldable pub validate_table : List ℕ → ℕ
unfolding length_ok counts_ok extent_ok decode_table ends_ok inputs_ok boards_ok instructions_ok limits_ok
validate_table bytes =
    or_number (length_ok bytes) 1
    (or_number (version_ok (version_in bytes)) 2
    (or_number (counts_ok bytes) 3
    (or_number (extent_ok bytes) 4
    (table_number (decode_table bytes)))))
