-- Computed cases for numbers 1 to 12: the limits themselves, which number comes first, and what is written to the buffers.
use mathlib.Core.Path.{◌≡◌, refl}
use mathlib.Core.List.{List, [], ◌∷◌, ◌++◌, map}
use Prim.Native.Nat.{ℕ}
use lib.ListN.{replicate}
use Rattle.backup.specs.Replica.{fit, arrive_number}
use Rattle.rules.specs.Table.{Channel, Instruction, SET, ADD, TAKE, FIRST, SEND, JUMP}
use Rattle.rules.specs.Moves.{guard}
use Rattle.rules.specs.Run.{buffers_of, run}
use Rattle.rules.proofs.Cases.{times, with_length, channel, placement, cabinet, table_bytes, Case, case, given, said}
use Rattle.rules.proofs.Marked.{sample}

-- the number of a table, with an empty schedule
abbrev number_for : List ℕ → ℕ
number_for table = (run table (0 ∷ 1 ∷ 1 ∷ []) (buffers_of [] [] (replicate 320 0) [])).number

-- channels 0 and 1 are fed and process 0 reads them, 2 goes from process 0 to 1, 3 from 1 to the outside; the program of process 0
-- and the boards of process 1
abbrev two : List Instruction → ℕ → ℕ → List ℕ
two code primary standby =
    table_bytes
    (cabinet 2 (channel 255 0 ∷ channel 255 0 ∷ channel 0 1 ∷ channel 1 255 ∷ []) (placement 0 1 code ∷ placement primary standby [] ∷ []))

abbrev with_program : List Instruction → List ℕ
with_program code = two code 1 0

abbrev with_channels : List Channel → List ℕ
with_channels l = table_bytes (cabinet 2 l (placement 0 1 [] ∷ []))

abbrev pub tables : List Case
tables =
    -- 1 "table under 6 bytes, length field over 6,260 or not the true one", 6,276 since W-207: so many bytes behind the field pass and are 4
    case (map number_for ([] ∷ with_length (1 ∷ 2 ∷ 1 ∷ []) ∷ with_length (1 ∷ 2 ∷ 1 ∷ 2 ∷ []) ∷ (sample ++ (0 ∷ [])) ∷ []) ∷ [])
    ((1 ∷ 1 ∷ 4 ∷ 1 ∷ []) ∷ [])
    ∷ case (map (λ n. number_for (with_length (1 ∷ 2 ∷ 1 ∷ 2 ∷ replicate n 0))) (6272 ∷ 6273 ∷ []) ∷ []) ((4 ∷ 1 ∷ []) ∷ [])
    -- 3 "B, P or C": boards 2 to 16, processes 1 to 16, channels 1 to 32
    ∷ case (map (λ n. number_for (with_length (1 ∷ n ∷ 1 ∷ 2 ∷ []))) (1 ∷ 2 ∷ 16 ∷ 17 ∷ []) ∷ []) ((3 ∷ 4 ∷ 4 ∷ 3 ∷ []) ∷ [])
    ∷ case (map (λ n. number_for (with_length (1 ∷ 2 ∷ n ∷ 2 ∷ []))) (0 ∷ 1 ∷ 16 ∷ 17 ∷ []) ∷ []) ((3 ∷ 4 ∷ 4 ∷ 3 ∷ []) ∷ [])
    ∷ case (map (λ n. number_for (with_length (1 ∷ 2 ∷ 1 ∷ n ∷ []))) (0 ∷ 1 ∷ 32 ∷ 33 ∷ []) ∷ []) ((3 ∷ 4 ∷ 4 ∷ 3 ∷ []) ∷ [])
    -- 4 "n over 64, or pairs and records not ending exactly with the table"
    ∷ case (map (λ n. number_for (with_program (replicate n (SET 0 0)))) (0 ∷ 64 ∷ 65 ∷ []) ∷ []) ((0 ∷ 0 ∷ 4 ∷ []) ∷ [])
    ∷ case (map (λ l. number_for (with_length (1 ∷ 2 ∷ 1 ∷ 1 ∷ 255 ∷ 0 ∷ 0 ∷ 1 ∷ l))) ([] ∷ (0 ∷ []) ∷ (0 ∷ 0 ∷ []) ∷ (1 ∷ 1 ∷ 0 ∷ 0 ∷ 0 ∷ 0 ∷ []) ∷ []) ∷ [])
    ((4 ∷ 0 ∷ 4 ∷ 4 ∷ []) ∷ [])
    -- 5 "channel ends": "a process number, or 255 for the outside, never both 255"
    ∷ case (map (λ c. number_for (with_channels (c ∷ []))) (channel 255 0 ∷ channel 0 255 ∷ channel 0 0 ∷ channel 255 255 ∷ channel 1 0 ∷ channel 0 1 ∷ []) ∷ [])
    ((0 ∷ 0 ∷ 0 ∷ 5 ∷ 5 ∷ 5 ∷ []) ∷ [])
    -- 6 "more than four channels read"
    ∷ case (map (λ n. number_for (with_channels (replicate n (channel 255 0)))) (4 ∷ 5 ∷ []) ∷ []) ((0 ∷ 6 ∷ []) ∷ [])
    -- 7 "a board not below B, or primary equal to backup", before 8 though its record stands behind
    ∷ case (map number_for (two (SET 4 0 ∷ []) 1 0 ∷ two (SET 4 0 ∷ []) 1 1 ∷ two [] 2 0 ∷ two [] 0 2 ∷ two [] 0 1 ∷ []) ∷ [])
    ((8 ∷ 7 ∷ 7 ∷ 7 ∷ 0 ∷ []) ∷ [])
    -- 8 "an instruction": what passes
    ∷ case (map (λ i. number_for (with_program (i ∷ []))) (SET 3 4294967295 ∷ ADD 3 3 ∷ TAKE 3 1 ∷ FIRST 2 3 ∷ FIRST 0 1 ∷ SEND 3 2 ∷ JUMP 3 0 ∷ JUMP 3 1 ∷ []) ∷ [])
    (times 8 (0 ∷ []) ∷ [])
    -- and what doesn't: registers, channels of others or none, an empty mask, a place past n
    ∷ case (map (λ i. number_for (with_program (i ∷ [])))
    (ADD 4 0 ∷ ADD 0 4 ∷ TAKE 0 2 ∷ TAKE 0 3 ∷ TAKE 0 4 ∷ FIRST 3 1 ∷ FIRST 0 0 ∷ FIRST 0 5 ∷ FIRST 0 17 ∷ FIRST 0 2147483649 ∷ SEND 0 0 ∷ SEND 0 3 ∷ SEND 0 255 ∷ SEND 4 2 ∷ JUMP 4 0 ∷ JUMP 0 2 ∷ []) ∷ [])
    (times 16 (8 ∷ []) ∷ [])
    ∷ []

pub tables_hold : given tables ≡ said tables
unfolding run guard
tables_hold = refl

-- number and all buffers of a run of the sample
abbrev outcome : List ℕ → List ℕ → List ℕ → List ℕ → List ℕ → List (List ℕ)
outcome schedule answers reasons report origins =
    let r = run sample schedule (buffers_of answers reasons report origins) in
    (r.number ∷ []) ∷ r.buffers.answers ∷ r.buffers.reasons ∷ r.buffers.report ∷ r.buffers.origins ∷ []

abbrev buffer : ℕ → List ℕ
buffer n = replicate n 170

abbrev pub runs : List Case
runs =
    -- 9 "schedule under 3 bytes, wrong length field, broken record", before 10 "its version"; an empty one passes
    case (map (λ l. (run sample l (buffers_of [] [] (buffer 20) [])).number)
    ([] ∷ (0 ∷ 0 ∷ []) ∷ (0 ∷ 2 ∷ 1 ∷ []) ∷ (0 ∷ 2 ∷ 2 ∷ 0 ∷ []) ∷ (0 ∷ 1 ∷ 2 ∷ []) ∷ (0 ∷ 1 ∷ 1 ∷ []) ∷ []) ∷ [])
    ((9 ∷ 9 ∷ 9 ∷ 9 ∷ 10 ∷ 0 ∷ []) ∷ [])
    -- "11 answer buffer under six bytes a record; 12 report buffer under 20 bytes a process"; refused, nothing is written
    ∷ case (outcome (with_length (1 ∷ 1 ∷ 0 ∷ 0 ∷ 0 ∷ 0 ∷ 0 ∷ [])) (buffer 5) (buffer 1) (buffer 19) (buffer 1))
    ((11 ∷ []) ∷ buffer 5 ∷ buffer 1 ∷ buffer 19 ∷ buffer 1 ∷ [])
    -- W-206: "A buffer for this list under one byte a record makes the run answer 11."
    ∷ case (outcome (with_length (1 ∷ 1 ∷ 0 ∷ 0 ∷ 0 ∷ 0 ∷ 0 ∷ [])) (buffer 6) [] (buffer 19) (buffer 1))
    ((11 ∷ []) ∷ buffer 6 ∷ [] ∷ buffer 19 ∷ buffer 1 ∷ [])
    ∷ case (outcome (with_length (1 ∷ 1 ∷ 0 ∷ 0 ∷ 0 ∷ 0 ∷ 0 ∷ [])) (buffer 6) (buffer 1) (buffer 19) (buffer 1))
    ((12 ∷ []) ∷ buffer 6 ∷ buffer 1 ∷ buffer 19 ∷ buffer 1 ∷ [])
    -- W-212: "51, that buffer is under two bytes a record, after 12"
    ∷ case (outcome (with_length (1 ∷ 1 ∷ 0 ∷ 0 ∷ 0 ∷ 0 ∷ 0 ∷ [])) (buffer 6) (buffer 1) (buffer 20) (buffer 1))
    ((51 ∷ []) ∷ buffer 6 ∷ buffer 1 ∷ buffer 20 ∷ buffer 1 ∷ [])
    -- "Bytes beyond those are untouched."
    ∷ case (outcome (with_length (1 ∷ 4 ∷ 0 ∷ 1 ∷ 2 ∷ 3 ∷ 4 ∷ 1 ∷ 0 ∷ 0 ∷ 0 ∷ 0 ∷ 0 ∷ [])) (buffer 13) (buffer 4) (buffer 22) (buffer 5))
    ((0 ∷ [])
    ∷ (4 ∷ 0 ∷ 1 ∷ 2 ∷ 3 ∷ 4 ∷ 1 ∷ 0 ∷ 1 ∷ 2 ∷ 3 ∷ 4 ∷ 170 ∷ [])
    ∷ (17 ∷ 4 ∷ 170 ∷ 170 ∷ [])
    ∷ (0 ∷ 1 ∷ 0 ∷ 0 ∷ 1 ∷ 2 ∷ 3 ∷ 4 ∷ (replicate 12 0 ++ (170 ∷ 170 ∷ [])))
    ∷ (255 ∷ 0 ∷ 255 ∷ 255 ∷ 170 ∷ [])
    ∷ [])
    ∷ []

pub runs_hold : given runs ≡ said runs
unfolding run guard fit arrive_number
runs_hold = refl
