-- Computed cases for rules of the moves that no theorem would miss: which refusal comes first, what counts, what a crash leaves.
use mathlib.Core.Path.{◌≡◌, refl}
use mathlib.Core.List.{List, [], ◌∷◌, ◌++◌}
use Prim.Native.Nat.{ℕ}
use Rattle.backup.specs.Replica.{fit, arrive_number, count_number, sync_number}
use Rattle.rules.specs.Table.{SET, TAKE, FIRST, SEND, JUMP}
use Rattle.rules.specs.Moves.{guard, Command}
use Rattle.rules.specs.Schedule.{command}
use Rattle.rules.specs.Run.{run}
use Rattle.rules.proofs.Cases.{step, sync, carry, feed, crash, times, channel, placement, cabinet, table_bytes, codes_of, quiet_of, report_of, page_of, Case, case, given, said}
use Rattle.rules.proofs.Marked.{sample}

abbrev steps : ℕ → ℕ → List Command
steps n p = times n (step p ∷ [])

-- ---- small tables

-- one process takes and takes
abbrev taker : List ℕ
taker = table_bytes (cabinet 2 (channel 255 0 ∷ []) (placement 0 1 (TAKE 0 0 ∷ JUMP 0 0 ∷ []) ∷ []))

-- process 0 sends and sends, to the outside; process 1 does nothing. Both run on board 0.
abbrev sender : List ℕ
sender =
    table_bytes
    (cabinet 3 (channel 0 255 ∷ []) (placement 0 1 (SET 0 1 ∷ SEND 0 0 ∷ JUMP 0 1 ∷ []) ∷ placement 0 2 [] ∷ []))

-- process 0 sends and sends, to process 1, which takes nothing
abbrev pressing : List ℕ
pressing =
    table_bytes
    (cabinet 2 (channel 0 1 ∷ []) (placement 0 1 (SET 0 1 ∷ SEND 0 0 ∷ JUMP 0 1 ∷ []) ∷ placement 1 0 [] ∷ []))

-- a process that reads channels 1 and 2
abbrev chooser : List ℕ
chooser =
    table_bytes
    (cabinet 2 (channel 0 255 ∷ channel 255 0 ∷ channel 255 0 ∷ []) (placement 0 1 (FIRST 0 6 ∷ TAKE 2 2 ∷ TAKE 3 1 ∷ []) ∷ []))

-- a process that sends to itself
abbrev selfish : List ℕ
selfish = table_bytes (cabinet 2 (channel 0 0 ∷ []) (placement 0 1 (SET 0 7 ∷ SEND 0 0 ∷ TAKE 1 0 ∷ []) ∷ []))

-- ---- which refusal comes first

abbrev pub orders : List Case
orders =
    -- "32 for an unknown move or a word that should be 0; 33 if a is no process, board or channel of this table"; "Refusals repeat a with word 0"
    case (page_of sample (command 9 99 0 ∷ command 1 99 5 ∷ command 1 99 0 ∷ command 0 0 0 ∷ feed 2 5 ∷ feed 1 5 ∷ []))
    ((6 ∷ [])
    ∷ (1 ∷ 32 ∷ 99 ∷ 0 ∷ [])
    ∷ (2 ∷ 32 ∷ 99 ∷ 0 ∷ [])
    ∷ (3 ∷ 33 ∷ 99 ∷ 0 ∷ [])
    ∷ (4 ∷ 32 ∷ 0 ∷ 0 ∷ [])
    ∷ (5 ∷ 33 ∷ 2 ∷ 0 ∷ [])
    ∷ (6 ∷ 43 ∷ 1 ∷ 0 ∷ [])
    ∷ (0 ∷ 0 ∷ 0 ∷ 0 ∷ 0 ∷ 0 ∷ 0 ∷ 0 ∷ 0 ∷ [])
    ∷ (1 ∷ [])
    ∷ [])
    -- "36 no such word, then 37": after four takes and four sends nothing is there, then a word is; after a sync it is taken
    ∷ case (codes_of sample (times 4 (feed 0 5 ∷ []) ++ (steps 17 0 ++ (feed 0 5 ∷ step 0 ∷ sync 0 ∷ step 0 ∷ []))))
    ((times 4 (4 ∷ []) ++ (times 4 (1 ∷ 0 ∷ 2 ∷ 0 ∷ []) ++ (36 ∷ 4 ∷ 37 ∷ 0 ∷ 1 ∷ []))) ∷ [])
    -- "eight acts pass, a ninth take with a word there is 37"; without a backup it passes
    ∷ case (codes_of taker (times 8 (feed 0 5 ∷ []) ++ (steps 16 0 ++ (feed 0 5 ∷ step 0 ∷ crash 1 ∷ step 0 ∷ []))))
    ((times 8 (4 ∷ []) ++ (times 8 (1 ∷ 0 ∷ []) ++ (4 ∷ 37 ∷ 0 ∷ 1 ∷ []))) ∷ [])
    -- "For a SEND not held back: 37 likewise, 38 queue full, 39 held": with eight words in the queue 37, and after a sync 39;
    -- with eight unread 39 too
    ∷ case (codes_of pressing (steps 18 0 ++ (sync 0 ∷ step 0 ∷ (times 8 (carry 0 ∷ []) ++ (step 0 ∷ step 1 ∷ [])))))
    ((0 ∷ (times 8 (2 ∷ 0 ∷ []) ++ (37 ∷ 0 ∷ 39 ∷ (times 8 (4 ∷ []) ++ (39 ∷ 35 ∷ []))))) ∷ [])
    -- "Sync: 40 no backup, 41 one waiting, 38 queue full": 32 words of a process without a backup fill the queue
    ∷ case (codes_of sender (crash 1 ∷ (steps 66 0 ++ (sync 0 ∷ sync 1 ∷ carry 0 ∷ sync 1 ∷ sync 1 ∷ step 0 ∷ []))))
    ((0 ∷ 0 ∷ (times 32 (2 ∷ 0 ∷ []) ++ (38 ∷ 40 ∷ 38 ∷ 4 ∷ 0 ∷ 41 ∷ 38 ∷ []))) ∷ [])
    -- one sync may wait; "5 sync carried, 6 sync with no backup left"
    ∷ case (codes_of sample (sync 0 ∷ sync 0 ∷ carry 0 ∷ sync 0 ∷ crash 1 ∷ sync 0 ∷ carry 0 ∷ []))
    ((0 ∷ 41 ∷ 5 ∷ 0 ∷ 0 ∷ 40 ∷ 6 ∷ []) ∷ [])
    -- "Carry: 34 board dead, 42 queue empty"; 44 "while some process has no backup", as process 1 since its crash
    ∷ case (codes_of sender (crash 2 ∷ carry 2 ∷ carry 1 ∷ crash 0 ∷ crash 2 ∷ [])) ((0 ∷ 34 ∷ 42 ∷ 44 ∷ 34 ∷ []) ∷ [])
    ∷ []

pub orders_hold : given orders ≡ said orders
unfolding run guard sync_number arrive_number count_number fit
orders_hold = refl

-- ---- what is taken, what is quiet

abbrev pub meanings : List Case
meanings =
    -- FIRST: "Remove the oldest unread word on any of them, into a; its channel number goes into a + 1"
    case (page_of chooser (feed 2 9 ∷ feed 1 8 ∷ feed 1 7 ∷ step 0 ∷ []))
    ((4 ∷ [])
    ∷ (1 ∷ 4 ∷ 2 ∷ 9 ∷ [])
    ∷ (2 ∷ 4 ∷ 1 ∷ 8 ∷ [])
    ∷ (3 ∷ 4 ∷ 1 ∷ 7 ∷ [])
    ∷ (4 ∷ 1 ∷ 2 ∷ 9 ∷ [])
    ∷ (0 ∷ 0 ∷ 1 ∷ 2 ∷ 0 ∷ 9 ∷ 2 ∷ 0 ∷ 0 ∷ [])
    ∷ (1 ∷ [])
    ∷ [])
    -- TAKE: "remove the oldest unread word of channel operand", with older ones of another channel there
    ∷ case (report_of chooser (feed 1 8 ∷ feed 1 7 ∷ feed 2 9 ∷ feed 2 6 ∷ steps 3 0)) ((0 ∷ 0 ∷ 3 ∷ 1 ∷ 0 ∷ 8 ∷ 1 ∷ 9 ∷ 7 ∷ []) ∷ [])
    -- "Quiet: each process is halted or would answer 36, and no queue has an entry": a word waits; halted, with an entry; without;
    -- and with a word that nobody takes
    ∷ case (quiet_of sample (feed 0 0 ∷ [])) ((0 ∷ []) ∷ [])
    ∷ case (quiet_of sample (feed 0 0 ∷ steps 4 0)) ((0 ∷ []) ∷ [])
    ∷ case (quiet_of sample (feed 0 0 ∷ (steps 4 0 ++ (carry 0 ∷ [])))) ((1 ∷ []) ∷ [])
    ∷ case (quiet_of sample (feed 0 0 ∷ (steps 4 0 ++ (carry 0 ∷ feed 0 3 ∷ [])))) ((1 ∷ []) ∷ [])
    -- one that would answer 37 is not at rest
    ∷ case (quiet_of taker (times 8 (feed 0 5 ∷ []) ++ (steps 16 0 ++ (feed 0 5 ∷ [])))) ((0 ∷ []) ∷ [])
    ∷ []

pub meanings_hold : given meanings ≡ said meanings
unfolding run guard sync_number arrive_number count_number fit
meanings_hold = refl

-- ---- what a crash leaves: board, place, unread, hold-back, registers

abbrev pub crashes : List Case
crashes =
    -- one word carried: it is held back
    case (report_of sample (feed 0 5 ∷ (steps 3 0 ++ (carry 0 ∷ crash 0 ∷ [])))) ((0 ∷ 1 ∷ 0 ∷ 1 ∷ 1 ∷ 0 ∷ 0 ∷ 0 ∷ 0 ∷ []) ∷ [])
    -- "Zeroing the count when the sync is issued": it still is
    ∷ case (report_of sample (feed 0 5 ∷ (steps 3 0 ++ (carry 0 ∷ sync 0 ∷ crash 0 ∷ [])))) ((0 ∷ 1 ∷ 0 ∷ 1 ∷ 1 ∷ 0 ∷ 0 ∷ 0 ∷ 0 ∷ []) ∷ [])
    -- "Counting a send when queued instead of when carried": a word lost in the queue isn't
    ∷ case (report_of sample (feed 0 5 ∷ (steps 3 0 ++ (crash 0 ∷ [])))) ((0 ∷ 1 ∷ 0 ∷ 1 ∷ 0 ∷ 0 ∷ 0 ∷ 0 ∷ 0 ∷ []) ∷ [])
    -- a sync carried: the process goes on from there, and what it took is dropped
    ∷ case (report_of sample (feed 0 5 ∷ feed 0 6 ∷ (steps 3 0 ++ (carry 0 ∷ sync 0 ∷ carry 0 ∷ crash 0 ∷ []))))
    ((0 ∷ 1 ∷ 3 ∷ 1 ∷ 0 ∷ 5 ∷ 5 ∷ 0 ∷ 0 ∷ []) ∷ [])
    -- "Where a process sends to itself, its one record saves the word and counts it."
    ∷ case (report_of selfish (steps 2 0 ++ (carry 0 ∷ crash 0 ∷ []))) ((0 ∷ 1 ∷ 0 ∷ 1 ∷ 1 ∷ 0 ∷ 0 ∷ 0 ∷ 0 ∷ []) ∷ [])
    -- "its queue is lost"; a dead board carries nothing
    ∷ case (codes_of sample (feed 0 5 ∷ (steps 3 0 ++ (crash 0 ∷ carry 1 ∷ carry 0 ∷ []))))
    ((4 ∷ 1 ∷ 0 ∷ 2 ∷ 0 ∷ 42 ∷ 34 ∷ []) ∷ [])
    ∷ []

pub crashes_hold : given crashes ≡ said crashes
unfolding run guard sync_number arrive_number count_number fit
crashes_hold = refl
