-- The promises of `ks_table_write` and `ks_table_apart`: the writer's, with what it returned in one number.
use Rattle.std.specs.Prelude.{List, ℕ, ◌+◌, ◌*◌, ◌/◌, ◌%◌, ◌<◌, Result, Ok, Err}
use Rattle.numbers.specs.Runs.{number_of}
use Rattle.numbers.specs.declared.runs.Refusal.{Refusal}
use Rattle.rules.specs.Encode.{Lists}
use Rattle.apart.specs.declared.Taken.{Taken}
use Rattle.writer.specs.Writes.{Writes}
use Rattle.apart.specs.Taken.{Lent, TakesApart}
use Rattle.kunzeastylus.specs.Packed.{Packed}

-- ---- a table written

pub record Written : Type 0 where
  pub number : ℕ
  pub length : ℕ

-- refused, the length is 0
abbrev pub written_by : Result ℕ Refusal → Written
written_by (Ok n) = record { number = 0; length = n }
written_by (Err r) = record { number = number_of r; length = 0 }

-- number and length as one number, and out of it again, as a caller takes it apart: bits 0 to 7, and bits 32 on
abbrev pub packed_written : Written → ℕ
packed_written r = r.number + 4294967296 * r.length

abbrev pub unpacked_written : ℕ → Written
unpacked_written n = record { number = n % 256; length = n / 4294967296 }

-- of any lists, and a buffer of any length: so before it, and so after it
abbrev pub WritesPacked : Lists → List ℕ → ℕ → List ℕ → Type 0
WritesPacked l out n out' = Packed written_by packed_written unpacked_written (λ r. Writes l out r out') n

-- ---- a table taken apart

pub record Apart : Type 0 where
  pub number : ℕ
  pub version : ℕ
  pub boards : ℕ
  pub processes : ℕ
  pub channels : ℕ
  pub instructions : ℕ

-- refused, the others are 0
abbrev pub taken_by : Result Taken Refusal → Apart
taken_by (Ok t) = record {
  number = 0;
  version = t.version;
  boards = t.boards;
  processes = t.processes;
  channels = t.channels;
  instructions = t.instructions;
}
taken_by (Err r) = record { number = number_of r; version = 0; boards = 0; processes = 0; channels = 0; instructions = 0 }

-- number, boards, processes and channels in eight bits each, instructions in sixteen, and the version from bit 48 on
abbrev pub packed_taken : Apart → ℕ
packed_taken r =
    r.number + 256 * r.boards + 65536 * r.processes + 16777216 * r.channels + 4294967296 * r.instructions + 281474976710656 * r.version

abbrev pub unpacked_taken : ℕ → Apart
unpacked_taken n = record {
  number = n % 256;
  version = n / 281474976710656;
  boards = n / 256 % 256;
  processes = n / 65536 % 256;
  channels = n / 16777216 % 256;
  instructions = n / 4294967296 % 65536;
}

-- each fits its bits
pub record Small (r : Apart) : Type 0 where
  pub number_fits : r.number < 256
  pub boards-fit : r.boards < 256
  pub processes-fit : r.processes < 256
  pub channels-fit : r.channels < 256
  pub instructions-fit : r.instructions < 65536

-- of any bytes of a table, and lists of any length: these before it, those after it
abbrev pub TakesPacked : List ℕ → Lent → ℕ → Lent → Type 0
TakesPacked table before n after = Packed taken_by packed_taken unpacked_taken (λ r. TakesApart table before r after) n
