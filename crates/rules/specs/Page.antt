-- The bench program's page, from what a run returned and wrote, and from the bytes of standard input (document 01, "The bench program's
-- page").
use Rattle.std.specs.Prelude.{Bool, cond, List, [], ◌∷◌, ◌++◌, ℕ, zero, suc, ◌+◌, ◌*◌, ◌/◌, ◌%◌, eqb, ltb, take, drop, replicate}
use Rattle.rules.specs.Bytes.{byte_at, number32}
use Rattle.rules.specs.Format.{table_most, processes_most, length_field, processes_in}
use Rattle.rules.specs.Schedule.{commands_most}
use Rattle.rules.specs.Moves.{Numbers}
use Rattle.rules.specs.Run.{Buffers, buffers_of, Ran, run}
use Rattle.rules.specs.Transparency.{answers_in}

-- ---- text

-- digits from left to right, none before the first that counts; so many further digits at most, and 20 digits are enough for 64 bits
abbrev pub digits : ℕ → ℕ → List ℕ
digits zero n = (48 + n % 10) ∷ []
digits (suc further) n = cond (ltb n 10) ((48 + n) ∷ []) (digits further (n / 10) ++ ((48 + n % 10) ∷ []))

-- "all decimal"
unfoldable pub decimal : ℕ → List ℕ
decimal n = digits 19 n

-- "one space between"
abbrev pub spaced : List (List ℕ) → List ℕ
spaced [] = []
spaced (word ∷ []) = word
spaced (word ∷ next ∷ words) = word ++ (32 ∷ spaced (next ∷ words))

-- a line, its line feed behind it
abbrev pub line : List (List ℕ) → List ℕ
line words = spaced words ++ (10 ∷ [])

-- the page's own words in ASCII: records, process, quiet, refused
abbrev pub records_text : List ℕ
records_text = 114 ∷ 101 ∷ 99 ∷ 111 ∷ 114 ∷ 100 ∷ 115 ∷ []

abbrev pub process_text : List ℕ
process_text = 112 ∷ 114 ∷ 111 ∷ 99 ∷ 101 ∷ 115 ∷ 115 ∷ []

abbrev pub quiet_text : List ℕ
quiet_text = 113 ∷ 117 ∷ 105 ∷ 101 ∷ 116 ∷ []

abbrev pub refused_text : List ℕ
refused_text = 114 ∷ 101 ∷ 102 ∷ 117 ∷ 115 ∷ 101 ∷ 100 ∷ []

-- ---- lines

-- "A refused run prints one line, `refused`, a space and the number."
abbrev pub refused_line : ℕ → List ℕ
refused_line number = line (refused_text ∷ decimal number ∷ [])

-- "one line a record (number from 1, code, a, word)"
abbrev pub answer_line : ℕ → Numbers → List ℕ
answer_line i n = line (decimal i ∷ decimal n.code ∷ decimal n.a ∷ decimal n.word ∷ [])

-- lines of a list whose first answer is that of record i
abbrev pub answer_lines : ℕ → List Numbers → List ℕ
answer_lines i [] = []
answer_lines i (n ∷ l) = answer_line i n ++ answer_lines (suc i) l

-- the register whose four bytes begin at this byte of a report
abbrev pub register_at : List ℕ → ℕ → ℕ
register_at report at = number32 (byte_at report at) (byte_at report (at + 1)) (byte_at report (at + 2)) (byte_at report (at + 3))

-- "one line a process (`process`, its number, board, place, unread, hold-back, registers)", of the 20 bytes that begin at this one
abbrev pub process_line : ℕ → List ℕ → ℕ → List ℕ
process_line p report at =
    line (process_text ∷ decimal p ∷ decimal (byte_at report at) ∷ decimal (byte_at report (at + 1)) ∷ decimal (byte_at report (at + 2))
    ∷ decimal (byte_at report (at + 3))
    ∷ decimal (register_at report (at + 4)) ∷ decimal (register_at report (at + 8)) ∷ decimal (register_at report (at + 12))
    ∷ decimal (register_at report (at + 16)) ∷ [])

-- the lines of n processes of which p is the first
abbrev pub process_lines : ℕ → ℕ → List ℕ → List ℕ
process_lines p zero report = []
process_lines p (suc n) report = process_line p report (20 * p) ++ process_lines (suc p) n report

-- "and `quiet` with 1 or 0"
abbrev pub quiet_line : Bool → List ℕ
quiet_line quiet = line (quiet_text ∷ decimal (cond quiet 1 0) ∷ [])

-- ---- the page

-- "The page is `records` and how many, one line a record [..], one line a process [..], and `quiet` with 1 or 0"
unfoldable pub accepted_page : ℕ → Ran → List ℕ
unfolding decimal
accepted_page processes r =
    line (records_text ∷ decimal r.records ∷ [])
    ++ (answer_lines 1 (answers_in r) ++ (process_lines 0 processes r.buffers.report ++ quiet_line r.quiet))

-- the page of a run on a table with so many processes
unfoldable pub page_of : ℕ → Ran → List ℕ
unfolding accepted_page decimal
page_of processes r = cond (eqb r.number 0) (accepted_page processes r) (refused_line r.number)

-- ---- the program

-- "The program reads the table (as long as its length bytes say) and then, up to the end of input, the schedule"
abbrev pub table_in : List ℕ → List ℕ
table_in input = take (2 + length_field input) input

abbrev pub schedule_in : List ℕ → List ℕ
schedule_in input = drop (2 + length_field input) input

-- buffers that hold the answers, the reasons, the report and the origins of every run
abbrev pub bench_buffers : Buffers
bench_buffers =
    buffers_of (replicate (6 * commands_most) 0) (replicate commands_most 0) (replicate (20 * processes_most) 0)
    (replicate (2 * commands_most) 0)

-- what the program prints for all of its input: "A table length over 6,260 prints `refused 1`"; W-207: over 6,276
unfoldable pub bench_page : List ℕ → List ℕ
unfolding run page_of decimal
bench_page input =
    cond (ltb table_most (length_field input)) (refused_line 1)
    (page_of (processes_in (table_in input)) (run (table_in input) (schedule_in input) bench_buffers))
