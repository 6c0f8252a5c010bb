-- W-211, that it isn't empty: a run with three accepted crashes of both boards, two returns and two resyncs of each process, after which both
-- processes have moved away and back and away again. It ends quiet; its answers, its bus order and its end are computed, and are those of a plain
-- run, computed too. Demand 3 of its bytes is the theorem of every accepted run.
use mathlib.Core.Path.{◌≡◌, refl}
use mathlib.Core.Bool.{true, ◌||◌}
use mathlib.Core.Option.{some}
use mathlib.Core.List.{List, [], ◌∷◌, ◌++◌, map}
use Prim.Native.Nat.{ℕ, zero, suc, ◌*◌, ◌<◌}
use native.Mathlib.Omega.{arith}
use lib.ListN.{length, replicate, take}
use Rattle.backup.specs.Report.{sync_report}
use Rattle.backup.specs.Replica.{fit, arrive_number, count_number, sync_number}
use Rattle.rules.specs.Table.{TAKE, ADD, SEND, JUMP}
use Rattle.rules.specs.Machine.{sent_from, from_outside}
use Rattle.rules.specs.Reference.{Reference, Action, inject, reference_start, reference_run}
use Rattle.rules.specs.Cabinet.{Process, process_at, protected}
use Rattle.rules.specs.Moves.{guard, Command, Numbers, run_from}
use Rattle.rules.specs.Undo.{standing}
use Rattle.rules.specs.Transparent.{bus_of, fed_of, bus_order, fed_in, machines_of, finished, ended}
use Rattle.rules.specs.Rebackup.{any_completes}
use Rattle.rules.specs.Recovery.{Repairs}
use Rattle.rules.specs.Format.{decode_table, processes_in}
use Rattle.rules.specs.Run.{Buffers, buffers_of, run, accepted}
use Rattle.rules.specs.Transparency.{FailureTransparency, answers_in, origins_in}
use Rattle.rules.proofs.Cases.{step, carry, feed, crash, rejoin, rebackup, times, schedule_bytes, channel, placement, cabinet, table_bytes, run_of}
use Rattle.rules.proofs.ReferenceCases.{mail}
use Rattle.rules.proofs.Theorem.{failure_transparency}

-- process 0 adds up what is fed and tells process 1, which tells the outside; each has the other's board for its stand-by
abbrev warehouse : List ℕ
warehouse =
    table_bytes
    (cabinet 2 (channel 255 0 ∷ channel 0 1 ∷ channel 1 255 ∷ [])
    (placement 0 1 (TAKE 0 0 ∷ ADD 1 0 ∷ SEND 1 1 ∷ JUMP 0 0 ∷ []) ∷ placement 1 0 (TAKE 0 1 ∷ SEND 0 2 ∷ JUMP 0 0 ∷ []) ∷ []))

-- a word that reaches the outlet; board 0 crashes and comes back, and process 0 rolls forward on board 1
abbrev first : List Command
first = feed 0 5 ∷ (times 3 (step 0 ∷ []) ++ (carry 0 ∷ step 1 ∷ step 1 ∷ carry 1 ∷ crash 0 ∷ rejoin 0 ∷ times 4 (step 0 ∷ [])))

-- resyncs of both, with a word that arrives and is taken before they are carried; board 1 crashes and comes back, and both roll forward on board 0
abbrev second : List Command
second =
    rebackup 0 ∷ rebackup 1 ∷ feed 0 7 ∷ step 0 ∷ carry 1 ∷ carry 1 ∷ step 0 ∷ step 0 ∷ carry 1
    ∷ crash 1 ∷ rejoin 1 ∷ (times 4 (step 0 ∷ []) ++ times 4 (step 1 ∷ []))

-- resyncs of both again; board 0 crashes again, and both go on, on board 1, to the end
abbrev third : List Command
third =
    rebackup 0 ∷ rebackup 1 ∷ carry 0 ∷ carry 0 ∷ carry 0 ∷ feed 0 9 ∷ (times 3 (step 0 ∷ []) ++ (carry 0 ∷ step 0
    ∷ crash 0 ∷ (times 4 (step 0 ∷ []) ++ (times 3 (step 1 ∷ []) ++ (carry 1 ∷ [])))))

abbrev pub years : List Command
years = first ++ (second ++ third)

abbrev lent : Buffers
lent =
    buffers_of (replicate (6 * length years) 0) (replicate (length years) 0) (replicate (20 * processes_in warehouse) 0)
    (replicate (2 * length years) 0)

-- ---- what it gives

abbrev year_answers : List Numbers
year_answers = answers_in (run_of warehouse years)

-- every record is accepted; the sends that went out before a crash are held back after it (3)
pub years_codes : map (λ (n : Numbers). n.code) year_answers
    ≡ (4 ∷ 1 ∷ 0 ∷ 2 ∷ 4 ∷ 1 ∷ 2 ∷ 4 ∷ 0 ∷ 0 ∷ 1 ∷ 0 ∷ 3 ∷ 0 ∷ [])
    ++ ((0 ∷ 0 ∷ 4 ∷ 1 ∷ 5 ∷ 5 ∷ 0 ∷ 2 ∷ 4 ∷ 0 ∷ 0 ∷ 1 ∷ 0 ∷ 3 ∷ 0 ∷ 0 ∷ 1 ∷ 2 ∷ 0 ∷ [])
    ++ (0 ∷ 0 ∷ 4 ∷ 5 ∷ 5 ∷ 4 ∷ 1 ∷ 0 ∷ 2 ∷ 4 ∷ 0 ∷ 0 ∷ 1 ∷ 0 ∷ 3 ∷ 0 ∷ 1 ∷ 2 ∷ 0 ∷ 4 ∷ []))
unfolding run guard sync_report sync_number arrive_number count_number fit
years_codes = refl

-- the boards of both processes at the start and after each part: away, back, and away
abbrev boards_after : List Command → List ℕ
boards_after l = map (λ (x : Process). x.board) (ended (decode_table warehouse) l).processes

pub years_moved : boards_after [] ∷ boards_after first ∷ boards_after (first ++ second) ∷ boards_after years ∷ []
    ≡ (0 ∷ 1 ∷ []) ∷ (1 ∷ 1 ∷ []) ∷ (0 ∷ 0 ∷ []) ∷ (1 ∷ 1 ∷ []) ∷ []
unfolding run guard sync_report sync_number arrive_number count_number fit
years_moved = refl

-- after the first crash the return and the resyncs, carried, make every process backed again: Recovery's theorem says something
pub years_repaired : Repairs (decode_table warehouse) (finished (decode_table warehouse) first) (take 6 second)
unfolding run guard sync_report sync_number arrive_number count_number fit decode_table run_from
years_repaired = record { no_crash = refl; each = both }
  where
    both : (p : ℕ) → p < 2 → protected (process_at (finished (decode_table warehouse) first) p)
        || any_completes p (run_from (decode_table warehouse) (finished (decode_table warehouse) first) (take 6 second)).answers ≡ true
    both zero h = refl
    both (suc zero) h = refl
    both (suc (suc p)) h = absurd (omega arith)

-- ---- a plain run with the same feeds

-- a word is fed, and goes through
abbrev through : ℕ → List Action
through w = inject (mail 0 w) ∷ replicate 4 (Action.step 0) ++ replicate 3 (Action.step 1)

abbrev plain_years : Reference
plain_years = record {
  machines = record { registers = 9 ∷ 21 ∷ 0 ∷ 0 ∷ []; pc = 0; mailbox = [] } ∷ record { registers = 21 ∷ 0 ∷ 0 ∷ 0 ∷ []; pc = 0; mailbox = [] } ∷ [];
  trace = from_outside (mail 0 5) ∷ sent_from 0 2 (mail 1 5) ∷ sent_from 1 1 (mail 2 5)
      ∷ from_outside (mail 0 7) ∷ sent_from 0 2 (mail 1 12) ∷ sent_from 1 1 (mail 2 12)
      ∷ from_outside (mail 0 9) ∷ sent_from 0 2 (mail 1 21) ∷ sent_from 1 1 (mail 2 21) ∷ [];
}

pub years_plain : reference_run (decode_table warehouse) (reference_start (decode_table warehouse)) (through 5 ++ (through 7 ++ through 9)) ≡ some plain_years
unfolding reference_run reference_start decode_table
years_plain = refl

-- the feeds that answered 4, the bus order with the origins, and the end, which is quiet
pub years_fed : fed_in years year_answers (origins_in (run_of warehouse years)) ≡ mail 0 5 ∷ mail 0 7 ∷ mail 0 9 ∷ []
unfolding fed_of standing run guard sync_report sync_number arrive_number count_number fit
years_fed = refl

pub years_compared : bus_order years year_answers (origins_in (run_of warehouse years)) ≡ plain_years.trace
unfolding bus_of standing run guard sync_report sync_number arrive_number count_number fit
years_compared = refl

pub years_end : machines_of (ended (decode_table warehouse) years) ≡ plain_years.machines
unfolding run guard sync_report sync_number arrive_number count_number fit
years_end = refl

pub years_quiet : (run_of warehouse years).quiet ≡ true
unfolding run guard sync_report sync_number arrive_number count_number fit
years_quiet = refl

-- ---- demand 3

years_accepted : accepted warehouse (schedule_bytes years) lent ≡ true
unfolding accepted run
years_accepted = refl

pub years_transparent : FailureTransparency warehouse (schedule_bytes years) (run warehouse (schedule_bytes years) lent)
years_transparent = failure_transparency warehouse (schedule_bytes years) lent years_accepted
