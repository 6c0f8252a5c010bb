-- Computed cases for W-206: every code with every cause that it has, each from a run that gives it.
use mathlib.Core.Path.{◌≡◌, refl}
use mathlib.Core.List.{List, [], ◌∷◌, ◌++◌, map}
use Prim.Native.Nat.{ℕ}
use Rattle.backup.specs.Replica.{fit, arrive_number, count_number, sync_number, fail_over}
use Rattle.rules.specs.Table.{Table, Instruction, SET, ADD, TAKE, FIRST, SEND, JUMP}
use Rattle.rules.specs.Cabinet.{started}
use Rattle.rules.specs.Moves.{guard, Command, run_from}
use Rattle.rules.specs.Reasons.{reason_of}
use Rattle.rules.specs.Schedule.{command}
use Rattle.rules.specs.Run.{run}
use Rattle.rules.specs.Transparency.{reasons_in}
use Rattle.rules.proofs.Cases.{step, sync, carry, feed, crash, times, channel, placement, cabinet, run_of, Case, case, given, said}
use Rattle.rules.proofs.Marked.{sample, sample_page}

abbrev steps : ℕ → List Command
steps n = times n (step 0 ∷ [])

-- the bytes of a run
abbrev reasons : Table → List Command → List (List ℕ)
reasons t l = map reason_of (run_from t (started t) l).answers ∷ []

-- one process, on boards 0 and 1, that reads channel 0 and sends on channel 1
abbrev one : List Instruction → Table
one code = cabinet 2 (channel 255 0 ∷ channel 0 255 ∷ []) (placement 0 1 code ∷ [])

-- process 0 sends and sends, to the outside; process 1 does nothing. Both run on board 0.
abbrev sender : Table
sender = cabinet 3 (channel 0 255 ∷ []) (placement 0 1 (SET 0 1 ∷ SEND 0 0 ∷ JUMP 0 1 ∷ []) ∷ placement 0 2 [] ∷ [])

-- process 0 sends and sends, to process 1, which takes nothing
abbrev pressing : Table
pressing = cabinet 2 (channel 0 1 ∷ []) (placement 0 1 (SET 0 1 ∷ SEND 0 0 ∷ JUMP 0 1 ∷ []) ∷ placement 1 0 [] ∷ [])

-- an instruction, so many sends and so many that calculate, and a jump back
abbrev round : Instruction → ℕ → ℕ → Table
round i sends others = one (i ∷ (times sends (SEND 0 1 ∷ []) ++ (times others (SET 3 1 ∷ []) ++ (JUMP 3 0 ∷ []))))

abbrev pub sample_reasons : List Case
sample_reasons =
    -- the run of M13, out of the buffer
    case (reasons_in (run_of sample sample_page) ∷ [])
    ((17 ∷ 17 ∷ 4 ∷ 0 ∷ 8 ∷ 16 ∷ 0 ∷ 4 ∷ 0 ∷ 8 ∷ 2 ∷ 4 ∷ 0 ∷ 12 ∷ 0 ∷ 4 ∷ 0 ∷ 8 ∷ 16 ∷ 0 ∷ []) ∷ [])
    ∷ []

pub sample_reasons_lem : given sample_reasons ≡ said sample_reasons
unfolding run guard sync_number arrive_number count_number fit
sample_reasons_lem = refl

abbrev pub causes : List Case
causes =
    -- "Code 32: 1 when the move is known and the word is at fault": an unknown move with a word is 0; then 33: "1 for a board, 2 for a channel"
    case (reasons (one []) (command 9 0 5 ∷ command 0 99 0 ∷ command 1 99 5 ∷ command 2 0 5 ∷ command 3 0 5 ∷ command 5 0 5 ∷ []))
    ((128 ∷ 128 ∷ 129 ∷ 129 ∷ 129 ∷ 129 ∷ []) ∷ [])
    ∷ case (reasons (one []) (step 1 ∷ sync 1 ∷ carry 2 ∷ crash 2 ∷ feed 2 5 ∷ feed 1 5 ∷ step 0 ∷ []))
    ((132 ∷ 132 ∷ 133 ∷ 133 ∷ 134 ∷ 172 ∷ 140 ∷ []) ∷ [])
    -- "Code 0: 1 for a sync, 2 for a crash": a step is 0; carried syncs have no cause
    ∷ case (reasons (one (SET 0 1 ∷ [])) (step 0 ∷ sync 0 ∷ carry 0 ∷ sync 0 ∷ crash 1 ∷ carry 0 ∷ sync 0 ∷ [])) ((0 ∷ 1 ∷ 20 ∷ 1 ∷ 2 ∷ 24 ∷ 160 ∷ []) ∷ [])
    -- "Code 34: 1 for a crash."
    ∷ case (reasons sender (crash 2 ∷ carry 2 ∷ carry 1 ∷ crash 0 ∷ crash 2 ∷ [])) ((2 ∷ 136 ∷ 168 ∷ 176 ∷ 137 ∷ []) ∷ [])
    -- "Code 36: 1 for FIRST."
    ∷ case (reasons (one (TAKE 0 0 ∷ FIRST 0 1 ∷ [])) (step 0 ∷ feed 0 5 ∷ step 0 ∷ step 0 ∷ [])) ((144 ∷ 17 ∷ 4 ∷ 145 ∷ []) ∷ [])
    -- "Code 38: 1 for a sync": 32 words of a process without a backup fill the queue
    ∷ case (reasons sender (crash 1 ∷ (steps 66 ++ (sync 1 ∷ carry 0 ∷ sync 1 ∷ sync 1 ∷ []))))
    ((2 ∷ 0 ∷ (times 32 (8 ∷ 0 ∷ []) ++ (152 ∷ 153 ∷ 16 ∷ 1 ∷ 164 ∷ []))) ∷ [])
    -- "Code 39: 1 for a feed": and of a SEND, after the acts and a sync
    ∷ case (reasons (one []) (times 9 (feed 0 5 ∷ []))) ((times 8 (17 ∷ []) ++ (157 ∷ [])) ∷ [])
    ∷ case (reasons pressing (steps 18 ++ (sync 0 ∷ step 0 ∷ []))) ((0 ∷ (times 8 (8 ∷ 0 ∷ []) ++ (148 ∷ 1 ∷ 156 ∷ []))) ∷ [])
    ∷ []

pub causes_hold : given causes ≡ said causes
unfolding started run_from reason_of guard sync_number arrive_number count_number fit fail_over
causes_hold = refl

-- "Code 37: 1 when only the 64 instructions are to blame (always so for SET, ADD and JUMP)."
abbrev pub owed : List Case
owed =
    -- 64 instructions, one act among them or none: every kind
    case (reasons (round (TAKE 0 0) 0 62) (feed 0 5 ∷ (steps 64 ++ (feed 0 5 ∷ step 0 ∷ []))))
    ((17 ∷ 4 ∷ (times 63 (0 ∷ []) ++ (17 ∷ 149 ∷ []))) ∷ [])
    ∷ case (reasons (round (FIRST 0 1) 0 62) (feed 0 5 ∷ (steps 64 ++ (feed 0 5 ∷ step 0 ∷ []))))
    ((17 ∷ 4 ∷ (times 63 (0 ∷ []) ++ (17 ∷ 149 ∷ []))) ∷ [])
    ∷ case (reasons (round (SEND 0 1) 0 62) (steps 65)) ((8 ∷ (times 63 (0 ∷ []) ++ (149 ∷ []))) ∷ [])
    ∷ case (reasons (round (SET 0 1) 0 62) (steps 65)) ((times 64 (0 ∷ []) ++ (149 ∷ [])) ∷ [])
    -- 8 acts and 64 instructions: the acts are to blame for a TAKE, a FIRST and a SEND
    ∷ case (reasons (round (TAKE 0 0) 7 55) (feed 0 5 ∷ (steps 64 ++ (feed 0 5 ∷ step 0 ∷ []))))
    ((17 ∷ 4 ∷ (times 7 (8 ∷ []) ++ (times 56 (0 ∷ []) ++ (17 ∷ 148 ∷ [])))) ∷ [])
    ∷ case (reasons (round (FIRST 0 1) 7 55) (feed 0 5 ∷ (steps 64 ++ (feed 0 5 ∷ step 0 ∷ []))))
    ((17 ∷ 4 ∷ (times 7 (8 ∷ []) ++ (times 56 (0 ∷ []) ++ (17 ∷ 148 ∷ [])))) ∷ [])
    ∷ case (reasons (round (SEND 0 1) 7 55) (steps 65)) ((times 8 (8 ∷ []) ++ (times 56 (0 ∷ []) ++ (148 ∷ []))) ∷ [])
    -- and never for a SET, an ADD and a JUMP
    ∷ case (reasons (round (SET 0 1) 8 54) (steps 65)) ((0 ∷ (times 8 (8 ∷ []) ++ (times 55 (0 ∷ []) ++ (149 ∷ [])))) ∷ [])
    ∷ case (reasons (round (ADD 0 1) 8 54) (steps 65)) ((0 ∷ (times 8 (8 ∷ []) ++ (times 55 (0 ∷ []) ++ (149 ∷ [])))) ∷ [])
    ∷ case (reasons (round (JUMP 2 0) 8 54) (steps 65)) ((0 ∷ (times 8 (8 ∷ []) ++ (times 55 (0 ∷ []) ++ (149 ∷ [])))) ∷ [])
    -- 8 acts alone
    ∷ case (reasons (one (times 9 (SEND 0 1 ∷ []))) (steps 9)) ((times 8 (8 ∷ []) ++ (148 ∷ [])) ∷ [])
    ∷ []

pub owed_hold : given owed ≡ said owed
unfolding started run_from reason_of guard sync_number arrive_number count_number fit fail_over
owed_hold = refl
