-- Computed cases for W-204: 64 instructions pass and the 65th is 37, of every kind; 36 before 37; what counts and what starts afresh.
use mathlib.Core.Path.{◌≡◌, refl}
use mathlib.Core.List.{List, [], ◌∷◌, ◌++◌, map}
use Prim.Native.Nat.{ℕ}
use Rattle.backup.specs.Replica.{fit, arrive_number, count_number, sync_number, fail_over}
use Rattle.rules.specs.Table.{Table, Instruction, SET, ADD, TAKE, FIRST, SEND, JUMP}
use Rattle.rules.specs.Cabinet.{started, quiescent}
use Rattle.rules.specs.Moves.{guard, Command, Answer, numbers, run_from}
use Rattle.rules.proofs.Cases.{step, sync, carry, feed, crash, times, channel, placement, cabinet, truth, Case, case, given, said}

abbrev steps : ℕ → List Command
steps n = times n (step 0 ∷ [])

-- the answers' codes of a run on a table with one process, on boards 0 and 1, that reads channel 0 and sends on channel 1; and its quiet
abbrev one : List Instruction → Table
one code = cabinet 2 (channel 255 0 ∷ channel 0 255 ∷ []) (placement 0 1 code ∷ [])

abbrev codes : List Instruction → List Command → List (List ℕ)
codes code l = map (λ (a : Answer). (numbers a).code) (run_from (one code) (started (one code)) l).answers ∷ []

abbrev quiet_after : List Instruction → List Command → List (List ℕ)
quiet_after code l = (truth (quiescent (one code) (run_from (one code) (started (one code)) l).cabinet) ∷ []) ∷ []

-- one instruction, and then 63 that calculate: a round of 64
abbrev round : Instruction → List Instruction
round i = i ∷ (times 62 (SET 3 1 ∷ []) ++ (JUMP 3 0 ∷ []))

-- a loop that neither reads nor sends
abbrev adding : List Instruction
adding = SET 0 1 ∷ ADD 1 0 ∷ JUMP 0 1 ∷ []

abbrev pub long_runs : List Case
long_runs =
    -- "Every kind of instruction then answers 37": the 65th of SET, of ADD and of JUMP
    case (codes (SET 0 1 ∷ JUMP 0 0 ∷ []) (steps 65)) ((times 64 (0 ∷ []) ++ (37 ∷ [])) ∷ [])
    ∷ case (codes (SET 0 1 ∷ SET 0 1 ∷ ADD 1 0 ∷ JUMP 0 2 ∷ []) (steps 65)) ((times 64 (0 ∷ []) ++ (37 ∷ [])) ∷ [])
    ∷ case (codes (SET 0 1 ∷ JUMP 0 1 ∷ []) (steps 65)) ((times 64 (0 ∷ []) ++ (37 ∷ [])) ∷ [])
    -- "TAKE and FIRST still answering 36 first when no word is there"; with one 37, and after a sync it is taken
    ∷ case (codes (round (TAKE 0 0)) (feed 0 5 ∷ (steps 65 ++ (feed 0 5 ∷ step 0 ∷ sync 0 ∷ step 0 ∷ []))))
    ((4 ∷ 1 ∷ (times 63 (0 ∷ []) ++ (36 ∷ 4 ∷ 37 ∷ 0 ∷ 1 ∷ []))) ∷ [])
    ∷ case (codes (round (FIRST 0 1)) (feed 0 5 ∷ (steps 65 ++ (feed 0 5 ∷ step 0 ∷ sync 0 ∷ step 0 ∷ []))))
    ((4 ∷ 1 ∷ (times 63 (0 ∷ []) ++ (36 ∷ 4 ∷ 37 ∷ 0 ∷ 1 ∷ []))) ∷ [])
    -- "instructions done": those that answered 36 are none
    ∷ case (codes (TAKE 0 0 ∷ []) (steps 65 ++ (feed 0 5 ∷ step 0 ∷ []))) ((times 65 (36 ∷ []) ++ (4 ∷ 1 ∷ [])) ∷ [])
    -- a SEND; the sync stands behind the first word in the queue
    ∷ case (codes (round (SEND 0 1)) (steps 65 ++ (sync 0 ∷ step 0 ∷ carry 0 ∷ carry 0 ∷ carry 0 ∷ [])))
    ((2 ∷ (times 63 (0 ∷ []) ++ (37 ∷ 0 ∷ 2 ∷ 4 ∷ 5 ∷ 4 ∷ []))) ∷ [])
    -- "stops at 37 until its next sync": of the next 64 none is refused, whether the sync is carried or not, and a refused one counts for nothing
    ∷ case (codes adding (steps 67 ++ (sync 0 ∷ (steps 65 ++ (sync 0 ∷ carry 0 ∷ step 0 ∷ sync 0 ∷ step 0 ∷ [])))))
    ((times 64 (0 ∷ []) ++ (37 ∷ 37 ∷ 37 ∷ 0 ∷ (times 64 (0 ∷ []) ++ (37 ∷ 41 ∷ 5 ∷ 37 ∷ 0 ∷ 0 ∷ [])))) ∷ [])
    -- "A process without a backup owes nothing": the backup's board crashes, or its own
    ∷ case (codes adding (steps 65 ++ (crash 1 ∷ steps 66))) ((times 64 (0 ∷ []) ++ (37 ∷ 0 ∷ times 66 (0 ∷ []))) ∷ [])
    ∷ case (codes adding (steps 65 ++ (crash 0 ∷ steps 66))) ((times 64 (0 ∷ []) ++ (37 ∷ 0 ∷ times 66 (0 ∷ []))) ∷ [])
    -- "35 halted" comes first: a program of 64 instructions, all done
    ∷ case (codes (times 64 (SET 0 1 ∷ [])) (steps 65)) ((times 64 (0 ∷ []) ++ (35 ∷ [])) ∷ [])
    -- one that owes a sync is not at rest, unless it waits for a word
    ∷ case (quiet_after adding (steps 64)) ((0 ∷ []) ∷ [])
    ∷ case (quiet_after (round (TAKE 0 0)) (feed 0 5 ∷ steps 64)) ((1 ∷ []) ∷ [])
    ∷ case (quiet_after (round (TAKE 0 0)) (feed 0 5 ∷ (steps 64 ++ (feed 0 5 ∷ [])))) ((0 ∷ []) ∷ [])
    ∷ []

pub long_runs_hold : given long_runs ≡ said long_runs
unfolding started quiescent run_from numbers guard sync_number arrive_number count_number fit fail_over
long_runs_hold = refl
