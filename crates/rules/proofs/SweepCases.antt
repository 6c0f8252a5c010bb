-- Computed cases for W-213: a sweep of the sample's schedule without its crash, also with a board that nothing uses and with another process's
-- hold-back, and each way of being refused.
use mathlib.Core.Path.{◌≡◌, refl}
use mathlib.Core.List.{List, [], ◌∷◌, ◌++◌}
use Prim.Native.Nat.{ℕ}
use lib.ListN.{set}
use Rattle.backup.specs.Replica.{fit, arrive_number, count_number, sync_number}
use Rattle.rules.specs.Table.{Instruction, TAKE, ADD, SEND, JUMP}
use Rattle.rules.specs.Moves.{guard, Command}
use Rattle.rules.specs.Schedule.{command}
use Rattle.rules.specs.Sweep.{Swept, validate_sweep, sweep}
use Rattle.rules.proofs.Cases.{step, carry, feed, crash, times, schedule_bytes, channel, placement, cabinet, table_bytes, Case, case, given, said}
use Rattle.rules.proofs.Marked.{sample}

abbrev numbers_of : Swept → List (List ℕ)
numbers_of r = (r.number ∷ r.quiet ∷ r.held ∷ r.free ∷ []) ∷ []

-- the sample's program
abbrev adder : List Instruction
adder = TAKE 0 0 ∷ ADD 1 0 ∷ SEND 1 1 ∷ JUMP 0 0 ∷ []

-- the sample with a board that nothing uses, and with a process before its own that does nothing
abbrev spare : List ℕ
spare = table_bytes (cabinet 3 (channel 255 0 ∷ channel 0 255 ∷ []) (placement 0 1 adder ∷ []))

abbrev second : List ℕ
second = table_bytes (cabinet 2 (channel 255 1 ∷ channel 1 255 ∷ []) (placement 1 0 [] ∷ placement 0 1 adder ∷ []))

-- two words through process p, with no crash
abbrev unharmed : ℕ → List Command
unharmed p = feed 0 5 ∷ feed 0 7 ∷ (times 3 (step p ∷ []) ++ (carry 0 ∷ (times 4 (step p ∷ []) ++ (carry 0 ∷ step p ∷ []))))

abbrev pub sweeps : List Case
sweeps =
    -- no records: one place, two boards, and both ends are quiet
    case (numbers_of (sweep sample (schedule_bytes []))) ((0 ∷ 2 ∷ 0 ∷ 0 ∷ []) ∷ [])
    -- 13 places, two boards
    ∷ case (numbers_of (sweep sample (schedule_bytes (unharmed 0)))) ((0 ∷ 13 ∷ 4 ∷ 9 ∷ []) ∷ [])
    -- "for each of the B boards", also one that nothing uses: its crash changes no end
    ∷ case (numbers_of (sweep spare (schedule_bytes (unharmed 0)))) ((0 ∷ 26 ∷ 4 ∷ 9 ∷ []) ∷ [])
    -- "some hold-back left", of any process
    ∷ case (numbers_of (sweep second (schedule_bytes (unharmed 1)))) ((0 ∷ 13 ∷ 4 ∷ 9 ∷ []) ∷ [])
    -- "a record of move 5, whatever its a and word"
    ∷ case (numbers_of (sweep sample (schedule_bytes (step 0 ∷ command 5 9 9 ∷ [])))) ((52 ∷ 0 ∷ 0 ∷ 0 ∷ []) ∷ [])
    -- a move 8 (W-214), also one that would be refused
    ∷ case (numbers_of (sweep sample (schedule_bytes (command 8 0 1 ∷ [])))) ((52 ∷ 0 ∷ 0 ∷ 0 ∷ []) ∷ [])
    -- "after 10"
    ∷ case (numbers_of (sweep sample (set (schedule_bytes (crash 0 ∷ [])) 2 2))) ((10 ∷ 0 ∷ 0 ∷ 0 ∷ []) ∷ [])
    ∷ []

pub sweeps_hold : given sweeps ≡ said sweeps
unfolding sweep guard sync_number arrive_number count_number fit
sweeps_hold = refl

-- "or over 500 records"
pub sweep-most : validate_sweep sample (schedule_bytes (times 500 (step 0 ∷ []))) ∷ validate_sweep sample (schedule_bytes (times 501 (step 0 ∷ []))) ∷ [] ≡ 0 ∷ 52 ∷ []
unfolding validate_sweep
sweep-most = refl
