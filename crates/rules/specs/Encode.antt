-- A table as lists of numbers: what they say, the bytes that they give, the number that refuses them, and the lists of a table's bytes
-- (document 02, W-201: "They want to give channel ends, placements and instructions as lists of numbers and get the table's bytes.").
use Rattle.std.specs.Prelude.{◌≡◌, Bool, cond, ◌&&◌, List, [], ◌∷◌, ◌++◌, ℕ, zero, suc, ◌+◌, ◌*◌, ◌/◌, ◌%◌, ◌^◌, eqb, leb, length, get_or, take, drop}
use Rattle.facts.specs.Tests.{all_of}
use Rattle.backup.specs.Limits.{pc_most}
use Rattle.rules.specs.Table.{Placement, Table}
use Rattle.rules.specs.Judge.{ends_ok, inputs_ok, boards_ok, instructions_ok, limits_ok}
use Rattle.rules.specs.Bytes.{byte_at, sixes, word_bytes, all_bytes}
use Rattle.rules.specs.Sizes.{with_limits, limit_bytes, record_head}
use Rattle.rules.specs.Format.{version_in, boards_in, processes_in, channels_in, pairs, record_bytes, program_length, rests, instruction}
use Rattle.rules.specs.Format.{limit_said, or_number, version_ok, counts_fit, table_number, decode_table, validate_table}

-- The version, boards B, processes P and channels C; for each channel sender and reader; for each process primary board, backup board and n; the
-- limit of each process, in version 2; and for each instruction code, `a` and operand, the instructions of all processes in a row.
pub record Lists : Type 0 where
  -- W-207: "The writer is given the version"
  pub version : ℕ
  pub boards : ℕ
  pub processes : ℕ
  pub channels : ℕ
  pub ends : List ℕ
  pub placements : List ℕ
  pub limits : List ℕ
  pub instructions : List ℕ

-- ---- what they say

-- something made of each of the first n threes of a list
abbrev pub threes : {A : Type 0} → (ℕ → ℕ → ℕ → A) → ℕ → List ℕ → List A
threes make zero l = []
threes make (suc n) l = make (get_or l 0 0) (get_or l 1 0) (get_or l 2 0) ∷ threes make n (drop 3 l)

-- n of the process whose three numbers begin the placements
abbrev pub length_given : List ℕ → ℕ
length_given placements = get_or placements 2 0

-- n processes: each has the next three numbers of the placements, the next of the limits where the version has them, and as many
-- instructions as its third number says
abbrev pub placed_by : ℕ → ℕ → List ℕ → List ℕ → List ℕ → List Placement
placed_by version zero placements limits instructions = []
placed_by version (suc n) placements limits instructions =
    record {
      primary = get_or placements 0 0;
      standby = get_or placements 1 0;
      limit = limit_said version (get_or limits 0 0);
      code = threes instruction (length_given placements) instructions;
    }
    ∷ placed_by version n (drop 3 placements) (drop (limit_bytes version) limits) (drop (3 * length_given placements) instructions)

unfoldable pub table_of : Lists → Table
table_of l = record {
  boards = l.boards;
  channels = pairs l.channels l.ends;
  processes = placed_by l.version l.processes l.placements l.limits l.instructions;
}

-- ---- their bytes

-- "n instructions of six bytes (code, a, a 32-bit operand)"
abbrev pub instruction_bytes : ℕ → ℕ → ℕ → List ℕ
instruction_bytes code a operand = code ∷ a ∷ word_bytes operand

abbrev pub program_bytes : ℕ → List ℕ → List ℕ
program_bytes n instructions = all_bytes (λ bytes. bytes) (threes instruction_bytes n instructions)

-- a limit where the version has it, and nothing otherwise
abbrev pub if_limits : ℕ → ℕ → List ℕ
if_limits version limit = cond (with_limits version) (limit ∷ []) []

-- "Then one record for each process: primary board, backup board, n (0 to 64), and n instructions", the limit "between the backup board and n"
abbrev pub records_for : ℕ → ℕ → List ℕ → List ℕ → List ℕ → List ℕ
records_for version zero placements limits instructions = []
records_for version (suc n) placements limits instructions =
    get_or placements 0 0 ∷ get_or placements 1 0 ∷ if_limits version (get_or limits 0 0)
    ++ (length_given placements ∷ program_bytes (length_given placements) instructions
    ++ records_for version n (drop 3 placements) (drop (limit_bytes version) limits) (drop (3 * length_given placements) instructions))

-- "Byte 2: version [..] Byte 3: boards B [..] Byte 4: processes P [..] Byte 5: channels C [..] Then C pairs": what follows the length
abbrev pub body_of : Lists → List ℕ
body_of l =
    l.version ∷ l.boards ∷ l.processes ∷ l.channels ∷ l.ends
    ++ records_for l.version l.processes l.placements l.limits l.instructions

-- "Bytes 0 and 1: the length of all that follows them"
unfoldable pub encode : Lists → List ℕ
encode l = let body = body_of l in length body / 2 ^ 8 ∷ length body % 2 ^ 8 ∷ body

-- ---- the number that refuses them

-- n of each process, and how many instructions they are together
abbrev pub program_lengths : ℕ → List ℕ → List ℕ
program_lengths processes placements = threes (λ primary standby n. n) processes placements

abbrev pub total : List ℕ → ℕ
total [] = 0
total (n ∷ l) = n + total l

-- 4: "n over 64", and "a list not as long as its counts say being 4". W-207: it "takes no limits for version 1 (else 4)".
unfoldable pub lists_ok : Lists → Bool
lists_ok l =
    let lengths = program_lengths l.processes l.placements in
    (eqb (length l.ends) (2 * l.channels)
    && (eqb (length l.placements) (3 * l.processes) && eqb (length l.limits) (limit_bytes l.version * l.processes)))
    && (all_of (λ n. leb n pc_most) lengths && eqb (length l.instructions) (3 * total lengths))

-- "The writer refuses with 3 to 8 on the same conditions as the reader": 0, or the lowest of them. W-207: it "refuses any but 1 and 2 with
-- 2, first of all", and with 47 after 8. The tests look at the numbers themselves, so one that fits no byte is refused by the test that
-- looks at it.
unfoldable pub validate_lists : Lists → ℕ
unfolding table_of lists_ok ends_ok inputs_ok boards_ok instructions_ok limits_ok
validate_lists l =
    or_number (version_ok l.version) 2
    (or_number (counts_fit l.boards l.processes l.channels) 3
    (or_number (lists_ok l) 4
    (table_number (table_of l))))

-- "45, the output buffer is shorter than the table, checked after 8", and after 47 (W-207: "before 45 in the writer"): 0, or the number
-- that refuses lists and a buffer of so many bytes
unfoldable pub validate_write : Lists → ℕ → ℕ
unfolding validate_lists encode
validate_write l room =
    let number = validate_lists l in
    or_number (eqb number 0) number
    (or_number (leb (length (encode l)) room) 45
    0)

-- ---- and back

-- the instructions of n times six bytes, three numbers each
abbrev pub program_in : ℕ → List ℕ → List ℕ
program_in n bytes = all_bytes (λ numbers. numbers) (sixes (λ code a operand. code ∷ a ∷ operand ∷ []) n bytes)

-- the placements, the limits and the instructions of n records
unfoldable pub placements_in : ℕ → ℕ → List ℕ → List ℕ
placements_in version n rest = all_bytes (λ r. byte_at r 0 ∷ byte_at r 1 ∷ program_length version r ∷ []) (rests version n rest)

unfoldable pub limits_in : ℕ → ℕ → List ℕ → List ℕ
limits_in version n rest = all_bytes (λ r. if_limits version (byte_at r 2)) (rests version n rest)

unfoldable pub instructions_in : ℕ → ℕ → List ℕ → List ℕ
instructions_in version n rest = all_bytes (λ r. program_in (program_length version r) (drop (record_head version) r)) (rests version n rest)

-- the lists of a table's bytes
unfoldable pub apart : List ℕ → Lists
unfolding placements_in limits_in instructions_in
apart bytes = record {
  version = version_in bytes;
  boards = boards_in bytes;
  processes = processes_in bytes;
  channels = channels_in bytes;
  ends = take (2 * channels_in bytes) (drop 6 bytes);
  placements = placements_in (version_in bytes) (processes_in bytes) (record_bytes bytes);
  limits = limits_in (version_in bytes) (processes_in bytes) (record_bytes bytes);
  instructions = instructions_in (version_in bytes) (processes_in bytes) (record_bytes bytes);
}

-- 0, or the number that refuses a table taken apart into lists with room for so many numbers: the reader's, or 45 where one is too short
unfoldable pub validate_apart : List ℕ → ℕ → ℕ → ℕ → ℕ → ℕ
unfolding validate_table apart
validate_apart bytes ends placements limits instructions =
    let number = validate_table bytes in
    let l = apart bytes in
    or_number (eqb number 0) number
    (or_number (leb (length l.ends) ends
    && (leb (length l.placements) placements && (leb (length l.limits) limits && leb (length l.instructions) instructions))) 45
    0)

-- ---- both ways

-- "What it writes is accepted by the reader with the same contents."
pub record ReadsAs (l : Lists) (bytes : List ℕ) : Type 0 where
  pub accepted : validate_table bytes ≡ 0
  pub says : decode_table bytes ≡ table_of l
  pub lists_back : apart bytes ≡ l

-- "An accepted table, taken apart and written again, comes out byte for byte."
pub record WritesAs (bytes : List ℕ) (l : Lists) : Type 0 where
  pub accepted : validate_lists l ≡ 0
  pub says : table_of l ≡ decode_table bytes
  pub bytes_back : encode l ≡ bytes
