-- Document 01's marked cases M1 to M13 as one computed table: bytes in, numbers out.
use mathlib.Core.Path.{◌≡◌, refl}
use mathlib.Core.Bool.{true}
use mathlib.Core.List.{List, [], ◌∷◌, ◌++◌, map}
use Prim.Native.Nat.{ℕ, zero, suc}
use lib.ListN.{replicate, set}
use Rattle.backup.specs.Replica.{Message, Replica, Checkpoint, no_registers, initial, fit, arrive, arrive_number, count_number, sync_number, sync}
use Rattle.rules.specs.Table.{SET, ADD}
use Rattle.rules.specs.Moves.{guard, Command}
use Rattle.rules.specs.Run.{Buffers, buffers_of, run, accepted}
use Rattle.rules.proofs.Cases.{step, carry, feed, crash, times, schedule_bytes, channel, placement, cabinet, table_bytes, number_of, codes_of, report_of, page_of, Case, case, given, said}

-- "Sample table, hex"
abbrev pub sample : List ℕ
sample =
    0x00 ∷ 0x23 ∷ 0x01 ∷ 0x02 ∷ 0x01 ∷ 0x02 ∷ 0xFF ∷ 0x00 ∷ 0x00 ∷ 0xFF ∷ 0x00 ∷ 0x01 ∷ 0x04
    ∷ 0x03 ∷ 0x00 ∷ 0x00 ∷ 0x00 ∷ 0x00 ∷ 0x00
    ∷ 0x02 ∷ 0x01 ∷ 0x00 ∷ 0x00 ∷ 0x00 ∷ 0x00
    ∷ 0x05 ∷ 0x01 ∷ 0x00 ∷ 0x00 ∷ 0x00 ∷ 0x01
    ∷ 0x06 ∷ 0x00 ∷ 0x00 ∷ 0x00 ∷ 0x00 ∷ 0x00 ∷ []

-- "feed 0 with 5, then 7; step 0 three times; carry 0; step four times; crash 0; step seven times; carry 1; step"
abbrev pub sample_page : List Command
sample_page =
    feed 0 5 ∷ feed 0 7 ∷ (times 3 (step 0 ∷ []) ++ (carry 0 ∷ (times 4 (step 0 ∷ []) ++ (crash 0 ∷ (times 7 (step 0 ∷ []) ++ (carry 1 ∷ step 0 ∷ []))))))

-- a table whose one process adds 1 to 4,294,967,295
abbrev wrapping : List ℕ
wrapping = table_bytes (cabinet 2 (channel 255 0 ∷ []) (placement 0 1 (SET 0 4294967295 ∷ SET 1 1 ∷ ADD 0 1 ∷ []) ∷ []))

-- a backup with messages on ports 0, 1, 0
abbrev three : Replica
three = record {
  log = record { port = 0; word = 11 } ∷ record { port = 1; word = 12 } ∷ record { port = 0; word = 13 } ∷ [];
  sent = 0;
  pc = 0;
  registers = no_registers;
}

abbrev one_taken : Checkpoint
one_taken = record { pc = 0; registers = no_registers; taken = 1 ∷ 0 ∷ 0 ∷ 0 ∷ [] }

abbrev pub marks : List Case
marks =
    -- M1 accepted
    case (number_of sample []) ((0 ∷ []) ∷ [])
    -- M2 length 00 22: 1
    ∷ case (number_of (set sample 1 0x22) []) ((1 ∷ []) ∷ [])
    -- M3 version 9: 2
    ∷ case (number_of (set sample 2 9) []) ((2 ∷ []) ∷ [])
    -- M4 one board: 3
    ∷ case (number_of (set sample 3 1) []) ((3 ∷ []) ∷ [])
    -- M5 backup board 0: 7
    ∷ case (number_of (set sample 11 0) []) ((7 ∷ []) ∷ [])
    -- M6 first code 7: 8
    ∷ case (number_of (set sample 13 7) []) ((8 ∷ []) ∷ [])
    -- M7 ADD of 4,294,967,295 and 1 gives 0 (process 0: board, place, unread, hold-back, registers)
    ∷ case (report_of wrapping (times 3 (step 0 ∷ []))) ((0 ∷ 0 ∷ 3 ∷ 0 ∷ 0 ∷ 0 ∷ 1 ∷ 0 ∷ 0 ∷ []) ∷ [])
    -- M8 first step, nothing fed: 36
    ∷ case (codes_of sample (step 0 ∷ [])) ((36 ∷ []) ∷ [])
    -- M9 eight feeds pass, the ninth 39
    ∷ case (codes_of sample (times 9 (feed 0 1 ∷ []))) ((4 ∷ 4 ∷ 4 ∷ 4 ∷ 4 ∷ 4 ∷ 4 ∷ 4 ∷ 39 ∷ []) ∷ [])
    -- M10 carry 0, nothing queued: 42
    ∷ case (codes_of sample (carry 0 ∷ [])) ((42 ∷ []) ∷ [])
    -- M11 crash 0, crash 1, crash 0: 0, 44, 34
    ∷ case (codes_of sample (crash 0 ∷ crash 1 ∷ crash 0 ∷ [])) ((0 ∷ 44 ∷ 34 ∷ []) ∷ [])
    -- M12 record with slots 0, 1, 0, sync one taken on slot 0: slots 1, 0 remain
    ∷ case (((sync three one_taken).number ∷ []) ∷ map (λ (m : Message). m.port) (sync three one_taken).replica.log ∷ []) ((0 ∷ []) ∷ (1 ∷ 0 ∷ []) ∷ [])
    -- M13 the page above
    ∷ case (page_of sample sample_page)
    ((20 ∷ [])
    ∷ (1 ∷ 4 ∷ 0 ∷ 5 ∷ [])
    ∷ (2 ∷ 4 ∷ 0 ∷ 7 ∷ [])
    ∷ (3 ∷ 1 ∷ 0 ∷ 5 ∷ [])
    ∷ (4 ∷ 0 ∷ 0 ∷ 0 ∷ [])
    ∷ (5 ∷ 2 ∷ 1 ∷ 5 ∷ [])
    ∷ (6 ∷ 4 ∷ 1 ∷ 5 ∷ [])
    ∷ (7 ∷ 0 ∷ 0 ∷ 0 ∷ [])
    ∷ (8 ∷ 1 ∷ 0 ∷ 7 ∷ [])
    ∷ (9 ∷ 0 ∷ 0 ∷ 0 ∷ [])
    ∷ (10 ∷ 2 ∷ 1 ∷ 12 ∷ [])
    ∷ (11 ∷ 0 ∷ 0 ∷ 0 ∷ [])
    ∷ (12 ∷ 1 ∷ 0 ∷ 5 ∷ [])
    ∷ (13 ∷ 0 ∷ 0 ∷ 0 ∷ [])
    ∷ (14 ∷ 3 ∷ 1 ∷ 5 ∷ [])
    ∷ (15 ∷ 0 ∷ 0 ∷ 0 ∷ [])
    ∷ (16 ∷ 1 ∷ 0 ∷ 7 ∷ [])
    ∷ (17 ∷ 0 ∷ 0 ∷ 0 ∷ [])
    ∷ (18 ∷ 2 ∷ 1 ∷ 12 ∷ [])
    ∷ (19 ∷ 4 ∷ 1 ∷ 12 ∷ [])
    ∷ (20 ∷ 0 ∷ 0 ∷ 0 ∷ [])
    ∷ (0 ∷ 1 ∷ 0 ∷ 0 ∷ 0 ∷ 7 ∷ 12 ∷ 0 ∷ 0 ∷ [])
    ∷ (1 ∷ [])
    ∷ [])
    ∷ []

pub marked : given marks ≡ said marks
unfolding run guard sync sync_number arrive_number count_number fit
marked = refl

-- the numbers of n arrivals at a backup
abbrev arrivals : ℕ → Replica → List ℕ
arrivals zero r = []
arrivals (suc n) r = (arrive r 0 7).number ∷ arrivals n (arrive r 0 7).replica

-- "Others: 48 arrivals pass, the 49th is 22" (the other of these two is in MoveCases)
pub arrivals_fill : arrivals 65 initial ≡ times 64 (0 ∷ []) ++ (22 ∷ [])
unfolding arrive arrive_number fit
arrivals_fill = refl

-- the theorem's one hypothesis holds of the sample
abbrev pub sample_buffers : Buffers
sample_buffers = buffers_of (replicate 120 0) (replicate 20 0) (replicate 20 0) (replicate 40 0)

pub sample_accepted : accepted sample (schedule_bytes sample_page) sample_buffers ≡ true
unfolding accepted
sample_accepted = refl
