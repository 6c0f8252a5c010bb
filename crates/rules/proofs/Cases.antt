-- Words for computed cases: tables and schedules as bytes, and what a run returns and writes as numbers.
use mathlib.Core.Bool.{Bool, cond}
use mathlib.Core.List.{List, [], ◌∷◌, ◌++◌, map}
use Prim.Native.Nat.{ℕ, zero, suc, ◌*◌, ◌/◌, ◌%◌, ◌^◌}
use lib.ListN.{length, drop, replicate}
use Rattle.rules.specs.Table.{Channel, Instruction, SET, ADD, TAKE, FIRST, SEND, JUMP, NONE, Placement, Table}
use Rattle.rules.specs.Sizes.{limit_before}
use Rattle.rules.specs.Moves.{Command, Numbers}
use Rattle.rules.specs.Bytes.{byte_at, number32, word_bytes, all_bytes}
use Rattle.rules.specs.Format.{processes_in}
use Rattle.rules.specs.Schedule.{command}
use Rattle.rules.specs.Run.{buffers_of, Ran, run}
use Rattle.rules.specs.Transparency.{answers_in}

-- ---- schedules

abbrev pub step : ℕ → Command
step p = command 1 p 0

abbrev pub sync : ℕ → Command
sync p = command 2 p 0

abbrev pub carry : ℕ → Command
carry b = command 3 b 0

abbrev pub feed : ℕ → ℕ → Command
feed k word = command 4 k word

abbrev pub crash : ℕ → Command
crash b = command 5 b 0

abbrev pub rejoin : ℕ → Command
rejoin b = command 6 b 0

abbrev pub rebackup : ℕ → Command
rebackup p = command 7 p 0

abbrev pub back : Command
back = command 8 0 0

abbrev pub times : {A : Type 0} → ℕ → List A → List A
times zero l = []
times (suc n) l = l ++ times n l

-- two length bytes for all that follows
abbrev pub with_length : List ℕ → List ℕ
with_length bytes = length bytes / 2 ^ 8 ∷ length bytes % 2 ^ 8 ∷ bytes

abbrev pub schedule_bytes : List Command → List ℕ
schedule_bytes l = with_length (1 ∷ all_bytes (λ (r : Command). r.move ∷ r.a ∷ word_bytes r.word) l)

-- ---- tables

abbrev pub channel : ℕ → ℕ → Channel
channel sender reader = record { sender = sender; reader = reader }

abbrev pub placement_with : ℕ → ℕ → ℕ → List Instruction → Placement
placement_with primary standby limit code = record { primary = primary; standby = standby; limit = limit; code = code }

abbrev pub placement : ℕ → ℕ → List Instruction → Placement
placement primary standby code = placement_with primary standby limit_before code

abbrev pub cabinet : ℕ → List Channel → List Placement → Table
cabinet boards channels processes = record { boards = boards; channels = channels; processes = processes }

abbrev pub instruction_bytes : Instruction → List ℕ
instruction_bytes (SET a v) = 1 ∷ a ∷ word_bytes v
instruction_bytes (ADD a b) = 2 ∷ a ∷ word_bytes b
instruction_bytes (TAKE a k) = 3 ∷ a ∷ word_bytes k
instruction_bytes (FIRST a mask) = 4 ∷ a ∷ word_bytes mask
instruction_bytes (SEND a k) = 5 ∷ a ∷ word_bytes k
instruction_bytes (JUMP a n) = 6 ∷ a ∷ word_bytes n
instruction_bytes NONE = 0 ∷ 0 ∷ word_bytes 0

-- a table whose version is this, and whose records have these bytes before n
abbrev bytes_by : ℕ → (Placement → List ℕ) → Table → List ℕ
bytes_by version front t =
    with_length
    (version
    ∷ t.boards
    ∷ length t.processes
    ∷ length t.channels
    ∷ (all_bytes (λ (c : Channel). c.sender ∷ c.reader ∷ []) t.channels
    ++ all_bytes (λ (x : Placement). front x ++ (length x.code ∷ all_bytes instruction_bytes x.code)) t.processes))

abbrev pub table_bytes : Table → List ℕ
table_bytes t = bytes_by 1 (λ x. x.primary ∷ x.standby ∷ []) t

-- W-207: with limits
abbrev pub limited_bytes : Table → List ℕ
limited_bytes t = bytes_by 2 (λ x. x.primary ∷ x.standby ∷ x.limit ∷ []) t

-- ---- a run, with buffers that are just long enough

abbrev pub run_of : List ℕ → List Command → Ran
run_of table l =
    run table (schedule_bytes l)
    (buffers_of (replicate (6 * length l) 0) (replicate (length l) 0) (replicate (20 * processes_in table) 0) (replicate (2 * length l) 0))

-- the number that it returns
abbrev pub number_of : List ℕ → List Command → List (List ℕ)
number_of table l = ((run_of table l).number ∷ []) ∷ []

-- the answers' codes
abbrev pub codes_of : List ℕ → List Command → List (List ℕ)
codes_of table l = map (λ (n : Numbers). n.code) (answers_in (run_of table l)) ∷ []

abbrev pub truth : Bool → ℕ
truth b = cond b 1 0

abbrev pub quiet_of : List ℕ → List Command → List (List ℕ)
quiet_of table l = (truth (run_of table l).quiet ∷ []) ∷ []

-- the lines of answers, from record k on: "number from 1, code, a, word"
abbrev pub answer_lines : ℕ → List Numbers → List (List ℕ)
answer_lines k [] = []
answer_lines k (n ∷ l) = (k ∷ n.code ∷ n.a ∷ n.word ∷ []) ∷ answer_lines (suc k) l

-- the lines of n processes, from process p on: "its number, board, place, unread, hold-back, registers"
abbrev pub register_in : List ℕ → ℕ
register_in bytes = number32 (byte_at bytes 0) (byte_at bytes 1) (byte_at bytes 2) (byte_at bytes 3)

abbrev pub process_lines : ℕ → ℕ → List ℕ → List (List ℕ)
process_lines p zero bytes = []
process_lines p (suc n) bytes =
    (p
    ∷ byte_at bytes 0
    ∷ byte_at bytes 1
    ∷ byte_at bytes 2
    ∷ byte_at bytes 3
    ∷ register_in (drop 4 bytes)
    ∷ register_in (drop 8 bytes)
    ∷ register_in (drop 12 bytes)
    ∷ register_in (drop 16 bytes)
    ∷ [])
    ∷ process_lines (suc p) n (drop 20 bytes)

abbrev pub report_of : List ℕ → List Command → List (List ℕ)
report_of table l = process_lines 0 (processes_in table) (run_of table l).buffers.report

-- the bench program's page, as the numbers of its lines
abbrev pub page_of : List ℕ → List Command → List (List ℕ)
page_of table l =
    ((run_of table l).records ∷ [])
    ∷ (answer_lines 1 (answers_in (run_of table l)) ++ (report_of table l ++ quiet_of table l))

-- ---- a table of cases

pub record Case : Type 0 where
  -- what the definitions give
  pub gives : List (List ℕ)
  -- what document 01 says
  pub says : List (List ℕ)

abbrev pub case : List (List ℕ) → List (List ℕ) → Case
case gives says = record { gives = gives; says = says }

abbrev pub given : List Case → List (List (List ℕ))
given l = map (λ (x : Case). x.gives) l

abbrev pub said : List Case → List (List (List ℕ))
said l = map (λ (x : Case). x.says) l
