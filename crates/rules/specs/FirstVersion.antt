-- What a table of version 1 says by document 01 alone, with limit 8: its records have three bytes before the instructions, and n is the third.
-- Definitions only; proofs/FirstVersion.antt proves that `decode_table` says the same of every table of version 1.
use Rattle.std.specs.Prelude.{List, [], ◌∷◌, map, ℕ, zero, suc, ◌+◌, ◌*◌, drop}
use Rattle.rules.specs.Sizes.{limit_before}
use Rattle.rules.specs.Table.{Placement, Table}
use Rattle.rules.specs.Bytes.{byte_at, sixes}
use Rattle.rules.specs.Format.{boards_in, processes_in, channels_in, pairs, record_bytes, instruction}

-- "one record for each process: primary board, backup board, n (0 to 64), and n instructions of six bytes"
abbrev pub rests_before : ℕ → List ℕ → List (List ℕ)
rests_before zero rest = []
rests_before (suc n) rest = rest ∷ rests_before n (drop (3 + 6 * byte_at rest 2) rest)

-- "Version 1 is read as limit 8 throughout."
abbrev pub placement_before : List ℕ → Placement
placement_before rest = record {
  primary = byte_at rest 0;
  standby = byte_at rest 1;
  limit = limit_before;
  code = sixes instruction (byte_at rest 2) (drop 3 rest);
}

abbrev pub table_before : List ℕ → Table
table_before bytes = record {
  boards = boards_in bytes;
  channels = pairs (channels_in bytes) (drop 6 bytes);
  processes = map placement_before (rests_before (processes_in bytes) (record_bytes bytes));
}
