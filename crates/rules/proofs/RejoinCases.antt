-- Computed cases for W-210: which refusal comes first, what 37 and the totals count while a resync waits, what the new record holds, and causes.
use mathlib.Core.Path.{◌≡◌, refl}
use mathlib.Core.List.{List, [], ◌∷◌, ◌++◌, map}
use Prim.Native.Nat.{ℕ}
use Rattle.backup.specs.Report.{sync_report}
use Rattle.backup.specs.Replica.{fit, arrive_number, count_number, sync_number}
use Rattle.rules.specs.Table.{SET, ADD, TAKE, SEND, JUMP}
use Rattle.rules.specs.Cabinet.{started}
use Rattle.rules.specs.Moves.{guard, Command, run_from}
use Rattle.rules.specs.Reasons.{reason_of}
use Rattle.rules.specs.Format.{decode_table}
use Rattle.rules.specs.Schedule.{command}
use Rattle.rules.specs.Run.{run}
use Rattle.rules.proofs.Cases.{step, sync, carry, feed, crash, rejoin, rebackup, times, channel, placement, cabinet, table_bytes, codes_of, report_of, page_of, Case, case, given, said}
use Rattle.rules.proofs.Marked.{sample}

abbrev steps : ℕ → ℕ → List Command
steps n p = times n (step p ∷ [])

-- ---- small tables

-- one process takes and takes
abbrev taker : List ℕ
taker = table_bytes (cabinet 2 (channel 255 0 ∷ []) (placement 0 1 (TAKE 0 0 ∷ JUMP 0 0 ∷ []) ∷ []))

-- one process goes round and round
abbrev looper : List ℕ
looper = table_bytes (cabinet 2 (channel 255 0 ∷ []) (placement 0 1 (SET 0 1 ∷ JUMP 0 0 ∷ []) ∷ []))

-- process 0 sends and sends, to the outside; process 1 does nothing. Both run on board 0.
abbrev sender : List ℕ
sender = table_bytes (cabinet 3 (channel 0 255 ∷ []) (placement 0 1 (SET 0 1 ∷ SEND 0 0 ∷ JUMP 0 1 ∷ []) ∷ placement 0 2 [] ∷ []))

-- the sample's process, and one that sends and sends from its stand-by's board
abbrev beside : List ℕ
beside =
    table_bytes
    (cabinet 2 (channel 255 0 ∷ channel 0 255 ∷ channel 1 255 ∷ [])
    (placement 0 1 (TAKE 0 0 ∷ ADD 1 0 ∷ SEND 1 1 ∷ JUMP 0 0 ∷ []) ∷ placement 1 0 (SET 0 1 ∷ SEND 0 2 ∷ JUMP 0 1 ∷ []) ∷ []))

-- the sample with a board that nothing uses
abbrev spare : List ℕ
spare = table_bytes (cabinet 3 (channel 255 0 ∷ channel 0 255 ∷ []) (placement 0 1 (TAKE 0 0 ∷ ADD 1 0 ∷ SEND 1 1 ∷ JUMP 0 0 ∷ []) ∷ []))

-- the sample's first word, as far as the bus
abbrev first_word : List Command
first_word = feed 0 5 ∷ step 0 ∷ step 0 ∷ step 0 ∷ carry 0 ∷ []

-- ---- which refusal comes first

abbrev pub refusals : List Case
refusals =
    -- "Neither move is unknown any more under 32, and both take 33." "48, a return of a live board, after 33"
    case (codes_of sample (command 6 2 5 ∷ command 7 1 5 ∷ rejoin 2 ∷ rebackup 1 ∷ command 9 0 0 ∷ rejoin 0 ∷ [])) ((32 ∷ 32 ∷ 33 ∷ 33 ∷ 32 ∷ 48 ∷ []) ∷ [])
    -- 50 before 49: the other board is dead, and a word is held back; then 49 until it has been held back
    ∷ case (codes_of sample (first_word ++ (crash 0 ∷ rebackup 0 ∷ rejoin 0 ∷ rebackup 0 ∷ step 0 ∷ step 0 ∷ rebackup 0 ∷ step 0 ∷ rebackup 0 ∷ carry 1 ∷ [])))
    ((4 ∷ 1 ∷ 0 ∷ 2 ∷ 4 ∷ 0 ∷ 50 ∷ 0 ∷ 49 ∷ 1 ∷ 0 ∷ 49 ∷ 3 ∷ 0 ∷ 5 ∷ []) ∷ [])
    -- 50 before 41, a sync waits; "an ordinary sync left from before the crash still answers 6", and is 41 until then; a waiting resync is 41 too;
    -- "Until the entry is carried the process has no backup": 40 and 44
    ∷ case (codes_of sample (sync 0 ∷ rebackup 0 ∷ crash 1 ∷ rejoin 1 ∷ rebackup 0 ∷ carry 0 ∷ rebackup 0 ∷ rebackup 0 ∷ sync 0 ∷ crash 1 ∷ carry 0 ∷ rebackup 0 ∷ sync 0 ∷ crash 1 ∷ []))
    ((0 ∷ 50 ∷ 0 ∷ 0 ∷ 41 ∷ 6 ∷ 0 ∷ 41 ∷ 40 ∷ 44 ∷ 5 ∷ 50 ∷ 0 ∷ 0 ∷ []) ∷ [])
    -- 49 before 38: a word is held back where the other process has filled the queue, which is 38 for both afterwards
    ∷ case (codes_of beside (first_word ++ (crash 0 ∷ (steps 65 1 ++ (rejoin 0 ∷ rebackup 0 ∷ rebackup 1 ∷ step 0 ∷ step 0 ∷ step 0 ∷ rebackup 0 ∷ [])))))
    ((4 ∷ 1 ∷ 0 ∷ 2 ∷ 4 ∷ 0 ∷ 0 ∷ (times 32 (2 ∷ 0 ∷ []) ++ (0 ∷ 49 ∷ 38 ∷ 1 ∷ 0 ∷ 3 ∷ 38 ∷ []))) ∷ [])
    -- 41 before 38: the resync is the 32nd entry; it is one entry, however many copies
    ∷ case (codes_of sender (crash 1 ∷ (steps 63 0 ++ (rejoin 1 ∷ rebackup 0 ∷ rebackup 0 ∷ carry 0 ∷ rebackup 0 ∷ [])))) ((0 ∷ 0 ∷ (times 31 (2 ∷ 0 ∷ []) ++ (0 ∷ 0 ∷ 41 ∷ 4 ∷ 41 ∷ []))) ∷ [])
    -- "on one channel it reads, more than 8 words": with 16 and with 9 it is 49, with 8 it is done
    ∷ case (codes_of taker (times 8 (feed 0 5 ∷ []) ++ (steps 16 0 ++ (times 8 (feed 0 5 ∷ []) ++ (crash 0 ∷ rejoin 0 ∷ rebackup 0 ∷ (steps 14 0 ++ (rebackup 0 ∷ step 0 ∷ rebackup 0 ∷ carry 1 ∷ [])))))))
    ((times 8 (4 ∷ []) ++ (times 8 (1 ∷ 0 ∷ []) ++ (times 8 (4 ∷ []) ++ (0 ∷ 0 ∷ 49 ∷ (times 7 (1 ∷ 0 ∷ []) ++ (49 ∷ 1 ∷ 0 ∷ 5 ∷ [])))))) ∷ [])
    -- "Crash refuses with 44 now exactly while some process has no backup": a board that nothing uses may crash and come back; 34 before 44; 44
    -- also for a board where nothing runs
    ∷ case (codes_of spare (crash 2 ∷ crash 2 ∷ rejoin 2 ∷ crash 2 ∷ crash 0 ∷ crash 0 ∷ crash 1 ∷ rejoin 0 ∷ crash 0 ∷ rebackup 0 ∷ crash 0 ∷ carry 1 ∷ crash 0 ∷ []))
    ((0 ∷ 34 ∷ 0 ∷ 0 ∷ 0 ∷ 34 ∷ 44 ∷ 0 ∷ 44 ∷ 0 ∷ 44 ∷ 5 ∷ 0 ∷ []) ∷ [])
    ∷ []

pub refusals_hold : given refusals ≡ said refusals
unfolding run guard sync_number arrive_number count_number fit
refusals_hold = refl

-- ---- what counts from issue on

abbrev pub counting : List Case
counting =
    -- "from then on 37 limits the process as if it were backed": eight acts pass, also before the resync is carried, and no ninth, before or after
    case (codes_of taker (crash 1 ∷ rejoin 1 ∷ rebackup 0 ∷ (times 8 (feed 0 5 ∷ []) ++ (steps 16 0 ++ (feed 0 5 ∷ step 0 ∷ carry 0 ∷ step 0 ∷ sync 0 ∷ step 0 ∷ [])))))
    ((0 ∷ 0 ∷ 0 ∷ (times 8 (4 ∷ []) ++ (times 8 (1 ∷ 0 ∷ []) ++ (4 ∷ 37 ∷ 5 ∷ 37 ∷ 0 ∷ 1 ∷ [])))) ∷ [])
    -- and 64 instructions
    ∷ case (codes_of looper (crash 1 ∷ rejoin 1 ∷ step 0 ∷ rebackup 0 ∷ (steps 65 0 ++ (carry 0 ∷ step 0 ∷ []))))
    ((0 ∷ 0 ∷ 0 ∷ 0 ∷ (times 64 (0 ∷ []) ++ (37 ∷ 5 ∷ 37 ∷ []))) ∷ [])
    -- "Acts, instructions and takes per slot start from 0 at issue": eight acts from before the crash don't count
    ∷ case (codes_of taker (times 8 (feed 0 5 ∷ []) ++ (steps 16 0 ++ (crash 1 ∷ rejoin 1 ∷ rebackup 0 ∷ feed 0 5 ∷ step 0 ∷ []))))
    ((times 8 (4 ∷ []) ++ (times 8 (1 ∷ 0 ∷ []) ++ (0 ∷ 0 ∷ 0 ∷ 4 ∷ 1 ∷ []))) ∷ [])
    -- nor do its takes: the sync after it drops nothing
    ∷ case (page_of sample (feed 0 6 ∷ step 0 ∷ feed 0 6 ∷ crash 1 ∷ rejoin 1 ∷ rebackup 0 ∷ carry 0 ∷ sync 0 ∷ carry 0 ∷ []))
    ((9 ∷ [])
    ∷ (1 ∷ 4 ∷ 0 ∷ 6 ∷ [])
    ∷ (2 ∷ 1 ∷ 0 ∷ 6 ∷ [])
    ∷ (3 ∷ 4 ∷ 0 ∷ 6 ∷ [])
    ∷ (4 ∷ 0 ∷ 0 ∷ 0 ∷ [])
    ∷ (5 ∷ 0 ∷ 0 ∷ 0 ∷ [])
    ∷ (6 ∷ 0 ∷ 0 ∷ 0 ∷ [])
    ∷ (7 ∷ 5 ∷ 0 ∷ 0 ∷ [])
    ∷ (8 ∷ 0 ∷ 0 ∷ 0 ∷ [])
    ∷ (9 ∷ 5 ∷ 0 ∷ 0 ∷ [])
    ∷ (0 ∷ 0 ∷ 1 ∷ 1 ∷ 0 ∷ 6 ∷ 0 ∷ 0 ∷ 0 ∷ [])
    ∷ (0 ∷ [])
    ∷ [])
    -- "Those copies count on no channel": with one copied, seven more words pass
    ∷ case (codes_of sample (feed 0 6 ∷ crash 0 ∷ rejoin 0 ∷ rebackup 0 ∷ (times 7 (feed 0 5 ∷ []) ++ (feed 0 5 ∷ [])))) ((4 ∷ 0 ∷ 0 ∷ 0 ∷ (times 7 (4 ∷ []) ++ (39 ∷ []))) ∷ [])
    ∷ []

pub counting_holds : given counting ≡ said counting
unfolding run guard sync_report sync_number arrive_number count_number fit
counting_holds = refl

-- ---- what the new record holds, by a crash afterwards: board, place, unread, hold-back, registers

abbrev pub records : List Case
records =
    -- "those words, then all that have arrived since issue", also those that were taken meanwhile; on "its other table board", here its backup's
    case (report_of sample (crash 1 ∷ rejoin 1 ∷ feed 0 5 ∷ feed 0 6 ∷ rebackup 0 ∷ feed 0 7 ∷ step 0 ∷ step 0 ∷ carry 0 ∷ crash 0 ∷ [])) ((0 ∷ 1 ∷ 0 ∷ 3 ∷ 0 ∷ 0 ∷ 0 ∷ 0 ∷ 0 ∷ []) ∷ [])
    -- in this order
    ∷ case (report_of sample (crash 1 ∷ rejoin 1 ∷ feed 0 5 ∷ feed 0 6 ∷ rebackup 0 ∷ feed 0 7 ∷ step 0 ∷ step 0 ∷ carry 0 ∷ crash 0 ∷ steps 9 0))
    ((0 ∷ 1 ∷ 1 ∷ 0 ∷ 0 ∷ 7 ∷ 11 ∷ 0 ∷ 0 ∷ []) ∷ [])
    -- after a return trip the other board is the primary: dead it is 50, and later the record is there
    ∷ case (codes_of sample (crash 0 ∷ rebackup 0 ∷ [])) ((0 ∷ 50 ∷ []) ∷ [])
    ∷ case (report_of sample (crash 0 ∷ rejoin 0 ∷ rebackup 0 ∷ carry 1 ∷ crash 1 ∷ [])) ((0 ∷ 0 ∷ 0 ∷ 0 ∷ 0 ∷ 0 ∷ 0 ∷ 0 ∷ 0 ∷ []) ∷ [])
    -- "and count 0": a word in front of the resync isn't held back later, one behind it is
    ∷ case (report_of sample (crash 0 ∷ feed 0 5 ∷ (steps 3 0 ++ (rejoin 0 ∷ rebackup 0 ∷ carry 1 ∷ carry 1 ∷ crash 1 ∷ [])))) ((0 ∷ 0 ∷ 3 ∷ 0 ∷ 0 ∷ 5 ∷ 5 ∷ 0 ∷ 0 ∷ []) ∷ [])
    ∷ case (report_of sample (crash 0 ∷ feed 0 5 ∷ (steps 2 0 ++ (rejoin 0 ∷ rebackup 0 ∷ step 0 ∷ carry 1 ∷ carry 1 ∷ crash 1 ∷ [])))) ((0 ∷ 0 ∷ 2 ∷ 0 ∷ 1 ∷ 5 ∷ 5 ∷ 0 ∷ 0 ∷ []) ∷ [])
    -- "Move 6 returns board a with an empty queue"
    ∷ case (codes_of sample (feed 0 5 ∷ (steps 3 0 ++ (crash 0 ∷ rejoin 0 ∷ carry 0 ∷ [])))) ((4 ∷ 1 ∷ 0 ∷ 2 ∷ 0 ∷ 0 ∷ 42 ∷ []) ∷ [])
    ∷ []

pub records_hold : given records ≡ said records
unfolding run guard sync_number arrive_number count_number fit
records_hold = refl

-- ---- causes: four times the code, and "cause 3 under code 0 [..] and under 5, 38 and 41 a resync"

abbrev reasons : List ℕ → List Command → List (List ℕ)
reasons table l = map reason_of (run_from (decode_table table) (started (decode_table table)) l).answers ∷ []

abbrev pub causes : List Case
causes =
    case (reasons sample (rejoin 2 ∷ rebackup 1 ∷ rejoin 0 ∷ rebackup 0 ∷ sync 0 ∷ crash 1 ∷ rejoin 1 ∷ rebackup 0 ∷ carry 0 ∷ rebackup 0 ∷ rebackup 0 ∷ crash 1 ∷ carry 0 ∷ []))
    ((133 ∷ 132 ∷ 192 ∷ 200 ∷ 1 ∷ 2 ∷ 3 ∷ 167 ∷ 24 ∷ 3 ∷ 167 ∷ 176 ∷ 23 ∷ []) ∷ [])
    ∷ case (reasons sample (first_word ++ (crash 0 ∷ rejoin 0 ∷ rebackup 0 ∷ []))) ((17 ∷ 4 ∷ 0 ∷ 8 ∷ 16 ∷ 2 ∷ 3 ∷ 196 ∷ []) ∷ [])
    ∷ case (reasons sender (crash 1 ∷ (steps 65 0 ++ (rejoin 1 ∷ rebackup 0 ∷ sync 1 ∷ [])))) ((2 ∷ 0 ∷ (times 32 (8 ∷ 0 ∷ []) ++ (3 ∷ 155 ∷ 153 ∷ []))) ∷ [])
    ∷ []

pub causes_hold : given causes ≡ said causes
unfolding run guard sync_number arrive_number count_number fit decode_table run_from
causes_hold = refl
