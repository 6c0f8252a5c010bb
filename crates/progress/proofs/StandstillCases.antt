-- A standstill by back-pressure, computed: process 0 sends nine words to process 1 and then one on another channel, which process 1 wants
-- first. Our cabinet stands still, with 39; the plain cabinet, which holds nothing, goes on to the end. And the longest roll-forward.
use mathlib.Core.Path.{◌≡◌, refl}
use mathlib.Core.Option.{some}
use mathlib.Core.List.{List, [], ◌∷◌, ◌++◌, map}
use Prim.Native.Nat.{ℕ, zero, suc, ◌<◌}
use native.Mathlib.Omega.{arith}
use lib.ListN.{replicate}
use Rattle.backup.specs.Report.{sync_report}
use Rattle.backup.specs.Replica.{fit, arrive_number, count_number, sync_number}
use Rattle.rules.specs.Table.{Table, SET, TAKE, SEND}
use Rattle.rules.specs.Machine.{sent_from}
use Rattle.rules.specs.Reference.{Action, reference_start, reference_run}
use Rattle.rules.specs.Cabinet.{outbox_at, full}
use Rattle.rules.specs.Moves.{guard, Command, run_from}
use Rattle.rules.specs.Transparent.{finished}
use Rattle.rules.specs.Run.{run}
use Rattle.progress.specs.Progress.{Stands, waits, pressed, Standstill}
use Rattle.rules.proofs.Cases.{step, sync, carry, crash, times, channel, placement, cabinet, table_bytes, codes_of, quiet_of, Case, case}
use Rattle.rules.proofs.Cases.{given, said}
use Rattle.rules.proofs.ReferenceCases.{mail}

abbrev pub nine : Table
nine =
    cabinet 2 (channel 0 1 ∷ channel 0 1 ∷ [])
    (placement 0 1 (replicate 9 (SEND 0 0) ++ (SEND 0 1 ∷ [])) ∷ placement 1 0 (TAKE 0 1 ∷ replicate 9 (TAKE 0 0)) ∷ [])

-- eight words go through, a sync is owed, issued and carried, and the ninth word is held
abbrev pub to_standstill : List Command
to_standstill = times 8 (step 0 ∷ []) ++ (step 0 ∷ sync 0 ∷ times 9 (carry 0 ∷ []))

-- what is left to try: steps, syncs, carries
abbrev pub standstills : List Case
standstills =
    case (codes_of (table_bytes nine) (to_standstill ++ (step 0 ∷ step 1 ∷ carry 0 ∷ carry 1 ∷ sync 0 ∷ sync 1 ∷ carry 0 ∷ carry 1 ∷ step 0 ∷ step 1 ∷ [])))
    ((times 8 (2 ∷ []) ++ (37 ∷ 0 ∷ (times 8 (4 ∷ []) ++ (5 ∷ 39 ∷ 36 ∷ 42 ∷ 42 ∷ 0 ∷ 0 ∷ 5 ∷ 5 ∷ 39 ∷ 36 ∷ [])))) ∷ [])
    ∷ case (quiet_of (table_bytes nine) to_standstill) ((0 ∷ []) ∷ [])
    ∷ []

pub standstills_hold : given standstills ≡ said standstills
unfolding run guard sync_report sync_number arrive_number count_number fit
standstills_hold = refl

-- so that the exception of `Progress` is met
pub a_standstill : Standstill nine (finished nine to_standstill)
unfolding run guard sync_report sync_number arrive_number count_number fit full run_from
a_standstill = record {
  empty = no_entry;
  each = each_stands;
  process = 0;
  there = omega arith;
  before = record { word = mail 0 0; after = _; sends = refl; not-held_back = refl; held = refl; reader = omega arith; unread = omega arith };
}
  where
    no_entry : (b : ℕ) → outbox_at (finished nine to_standstill) b ≡ []
    no_entry zero = refl
    no_entry (suc zero) = refl
    no_entry (suc (suc b)) = refl

    each_stands : (p : ℕ) → p < 2 → Stands nine (finished nine to_standstill) p
    each_stands zero h =
        pressed record { word = mail 0 0; after = _; sends = refl; not-held_back = refl; held = refl; reader = omega arith; unread = omega arith }
    each_stands (suc zero) h = waits refl
    each_stands (suc (suc p)) h = absurd (omega arith)

-- the plain cabinet: ten sends, ten takes, and both programs are at their end
pub plain_goes_on : reference_run nine (reference_start nine) (replicate 10 (Action.step 0) ++ replicate 10 (Action.step 1))
    ≡ some (record {
      machines = record { registers = 0 ∷ 0 ∷ 0 ∷ 0 ∷ []; pc = 10; mailbox = [] } ∷ record { registers = 0 ∷ 0 ∷ 0 ∷ 0 ∷ []; pc = 10; mailbox = [] } ∷ [];
      trace = map (λ pc. sent_from 0 pc (mail 0 0)) (0 ∷ 1 ∷ 2 ∷ 3 ∷ 4 ∷ 5 ∷ 6 ∷ 7 ∷ 8 ∷ []) ++ (sent_from 0 9 (mail 1 0) ∷ []);
    })
unfolding reference_run reference_start
plain_goes_on = refl

-- ---- a roll-forward of 64 steps

-- 63 instructions and a SEND, of which the word is carried before the crash: the last of 64 steps holds it back
abbrev pub longest : List ℕ
longest = table_bytes (cabinet 2 (channel 0 255 ∷ []) (placement 0 1 (replicate 63 (SET 0 5) ++ (SEND 0 0 ∷ [])) ∷ []))

pub longest_roll : codes_of longest (times 64 (step 0 ∷ []) ++ (carry 0 ∷ crash 0 ∷ times 65 (step 0 ∷ [])))
    ≡ (times 63 (0 ∷ []) ++ (2 ∷ 4 ∷ 0 ∷ (times 63 (0 ∷ []) ++ (3 ∷ 35 ∷ [])))) ∷ []
unfolding run guard sync_report sync_number arrive_number count_number fit
longest_roll = refl
