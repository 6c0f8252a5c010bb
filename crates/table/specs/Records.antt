-- Where the records of a table begin, as places in its bytes.
use Rattle.std.specs.Prelude.{List, ℕ, zero, suc, ◌+◌, drop}
use Rattle.rules.specs.Format.{version_in, record_head, records_start, record_length}

-- the p-th record from the one that begins at byte `at`
abbrev pub record_from : List ℕ → ℕ → ℕ → ℕ
record_from bytes at zero = at
record_from bytes at (suc p) = let start = record_from bytes at p in start + record_length (version_in bytes) (drop start bytes)

-- "Then one record for each process": where that of process p begins
abbrev pub record_start : List ℕ → ℕ → ℕ
record_start bytes p = record_from bytes (records_start bytes) p

-- "primary board, backup board, n (0 to 64), and n instructions": where the instructions of process p begin
abbrev pub program_start : List ℕ → ℕ → ℕ
program_start bytes p = record_start bytes p + record_head (version_in bytes)
