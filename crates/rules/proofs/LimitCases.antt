-- Computed cases for W-207: as many acts as the limit pass and the next is 37; each process has its own limit; a saved list reaches 32 plus twice
-- the limit; which limits and which versions are refused, and in which order.
use mathlib.Core.Path.{◌≡◌, refl}
use mathlib.Core.List.{List, [], ◌∷◌, ◌++◌, map}
use Prim.Native.Nat.{ℕ, zero, suc, ◌*◌, ◌%◌}
use lib.ListN.{replicate, set}
use Rattle.backup.specs.Replica.{fit, arrive_number, count_number, sync_number, fail_over}
use Rattle.rules.specs.Table.{SET, TAKE, SEND}
use Rattle.rules.specs.Moves.{guard, Command}
use Rattle.rules.specs.Bytes.{byte_at}
use Rattle.rules.specs.Run.{buffers_of, run}
use Rattle.rules.proofs.Cases.{step, sync, feed, crash, times, channel, placement, placement_with, cabinet, table_bytes, limited_bytes, run_of, codes_of, Case, case, given, said}

-- ---- acts

-- a process that sends and sends, and beside it another
abbrev senders : ℕ → ℕ → List ℕ
senders first second =
    limited_bytes
    (cabinet 2 (channel 0 255 ∷ channel 1 255 ∷ [])
    (placement_with 0 1 first (times 20 (SEND 0 0 ∷ [])) ∷ placement_with 1 0 second (times 20 (SEND 0 1 ∷ [])) ∷ []))

-- a process that takes and takes
abbrev taker : ℕ → List ℕ
taker limit = limited_bytes (cabinet 2 (channel 255 0 ∷ []) (placement_with 0 1 limit (times 4 (TAKE 0 0 ∷ [])) ∷ []))

-- so many sends of process p and the next
abbrev sends : ℕ → ℕ → List Command
sends p n = times n (step p ∷ []) ++ (step p ∷ [])

-- n sends pass, and the next doesn't
abbrev stopped : ℕ → List ℕ
stopped n = times n (2 ∷ []) ++ (37 ∷ [])

abbrev pub limit_runs : List Case
limit_runs =
    -- "a sync every 2 acts, the report printer every 16"
    case (codes_of (senders 1 16) (sends 0 1)) (stopped 1 ∷ [])
    ∷ case (codes_of (senders 2 1) (sends 0 2)) (stopped 2 ∷ [])
    ∷ case (codes_of (senders 8 1) (sends 0 8)) (stopped 8 ∷ [])
    ∷ case (codes_of (senders 16 1) (sends 0 16)) (stopped 16 ∷ [])
    -- each process has its own
    ∷ case (codes_of (senders 1 2) (sends 0 1 ++ sends 1 2)) ((stopped 1 ++ stopped 2) ∷ [])
    -- a sync sets back the acts, as before; without a backup there is no limit
    ∷ case (codes_of (senders 1 1) (sends 0 1 ++ (sync 0 ∷ sends 0 1))) ((stopped 1 ++ (0 ∷ stopped 1)) ∷ [])
    ∷ case (codes_of (senders 1 1) (sends 0 1 ++ (crash 1 ∷ (step 0 ∷ sends 0 2)))) ((stopped 1 ++ (0 ∷ 2 ∷ 2 ∷ 2 ∷ 2 ∷ [])) ∷ [])
    -- takes are acts: 36 first, then 37
    ∷ case (codes_of (taker 2) (feed 0 5 ∷ feed 0 6 ∷ (times 3 (step 0 ∷ []) ++ (feed 0 7 ∷ step 0 ∷ sync 0 ∷ step 0 ∷ []))))
    ((4 ∷ 4 ∷ 1 ∷ 1 ∷ 36 ∷ 4 ∷ 37 ∷ 0 ∷ 1 ∷ []) ∷ [])
    ∷ []

pub limit_runs_hold : given limit_runs ≡ said limit_runs
unfolding run guard fit arrive_number count_number sync_number fail_over
limit_runs_hold = refl

-- ---- saved words

-- a process that reads four channels, in turn
abbrev reader : ℕ → List ℕ
reader limit =
    limited_bytes
    (cabinet 2 (replicate 4 (channel 255 0))
    (placement_with 0 1 limit (times 8 (TAKE 0 0 ∷ TAKE 0 1 ∷ TAKE 0 2 ∷ TAKE 0 3 ∷ [])) ∷ []))

-- a word on each of the four in turn, n in all, from channel k on
abbrev feeds : ℕ → ℕ → List Command
feeds k zero = []
feeds k (suc n) = feed (k % 4) 9 ∷ feeds (suc k) n

-- all channels are filled, `limit` words are taken, a sync is issued and not carried, `limit` more are taken, and the channels are filled again
abbrev filling : ℕ → List Command
filling limit =
    let takes = times limit (step 0 ∷ []) in
    feeds 0 32 ++ (takes ++ (sync 0 ∷ (takes ++ feeds 0 (2 * limit))))

-- how many words are unread after the crash of the process's board: the saved ones
abbrev saved_after : ℕ → ℕ
saved_after limit = byte_at (run_of (reader limit) (filling limit ++ (crash 0 ∷ []))).buffers.report 2

abbrev pub saved_words : List ℕ
saved_words = map saved_after (1 ∷ 2 ∷ 8 ∷ 16 ∷ [])

-- "at most 32 plus twice the limit saved words": so many there are
pub saved_words_hold : saved_words ≡ 34 ∷ 36 ∷ 48 ∷ 64 ∷ []
unfolding run guard fit arrive_number count_number sync_number fail_over
saved_words_hold = refl

-- ---- refusals

-- the number of a table with a schedule, one that is empty and one that is none
abbrev number_with : List ℕ → List ℕ → ℕ
number_with schedule table = (run table schedule (buffers_of [] [] (replicate 320 0) [])).number

abbrev number : List ℕ → ℕ
number table = number_with (0 ∷ 1 ∷ 1 ∷ []) table

-- a program that is no program
abbrev wrong : ℕ → List ℕ
wrong limit = limited_bytes (cabinet 2 (channel 255 0 ∷ []) (placement_with 0 1 limit (SET 4 0 ∷ []) ∷ []))

abbrev pub limit_tables : List Case
limit_tables =
    -- "47, a limit outside 1 to 16", of any process
    case (map (λ n. number (senders n 1)) (0 ∷ 1 ∷ 16 ∷ 17 ∷ 255 ∷ []) ∷ []) ((47 ∷ 0 ∷ 0 ∷ 47 ∷ 47 ∷ []) ∷ [])
    ∷ case (map (λ n. number (senders 1 n)) (0 ∷ 1 ∷ 16 ∷ 17 ∷ 255 ∷ []) ∷ []) ((47 ∷ 0 ∷ 0 ∷ 47 ∷ 47 ∷ []) ∷ [])
    -- "checked after 8 and before 9"
    ∷ case (map (λ n. number (wrong n)) (0 ∷ 1 ∷ 17 ∷ []) ∷ []) ((8 ∷ 8 ∷ 8 ∷ []) ∷ [])
    ∷ case (map (λ n. number_with [] (senders n 1)) (0 ∷ 1 ∷ 17 ∷ []) ∷ []) ((47 ∷ 9 ∷ 47 ∷ []) ∷ [])
    -- "2 means a version other than 1 or 2"; the records of either aren't those of the other
    ∷ case (map (λ v. number (set (senders 1 1) 2 v)) (0 ∷ 1 ∷ 2 ∷ 3 ∷ []) ∷ []) ((2 ∷ 4 ∷ 0 ∷ 2 ∷ []) ∷ [])
    ∷ case (map (λ v. number (set (table_bytes (cabinet 2 (channel 255 0 ∷ []) (placement 0 1 [] ∷ []))) 2 v)) (0 ∷ 1 ∷ 2 ∷ 3 ∷ []) ∷ []) ((2 ∷ 0 ∷ 4 ∷ 2 ∷ []) ∷ [])
    ∷ []

pub limit_tables_hold : given limit_tables ≡ said limit_tables
unfolding run guard
limit_tables_hold = refl
