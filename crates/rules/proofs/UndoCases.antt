-- Computed cases for W-214: what is taken back, what is not, and how far.
use mathlib.Core.Path.{◌≡◌, refl}
use mathlib.Core.List.{List, [], ◌∷◌, ◌++◌, map}
use Prim.Native.Nat.{ℕ}
use Rattle.backup.specs.Replica.{fit, arrive_number, count_number, sync_number}
use Rattle.rules.specs.Machine.{Mail, sent_from, from_outside}
use Rattle.rules.specs.Moves.{guard, Command, Numbers}
use Rattle.rules.specs.Undo.{standing}
use Rattle.rules.specs.Transparent.{bus_of, fed_of, bus_order, fed_in}
use Rattle.rules.specs.Schedule.{command}
use Rattle.rules.specs.Run.{run}
use Rattle.rules.specs.Transparency.{answers_in, reasons_in, origins_in}
use Rattle.rules.proofs.Cases.{step, sync, carry, feed, crash, back, times, codes_of, page_of, run_of, Case, case, given, said}
use Rattle.rules.proofs.Marked.{sample}

-- the sample's first word, as far as the bus
abbrev first_word : List Command
first_word = feed 0 5 ∷ step 0 ∷ step 0 ∷ step 0 ∷ carry 0 ∷ []

abbrev reasons_of : List ℕ → List Command → List (List ℕ)
reasons_of table l = reasons_in (run_of table l) ∷ []

abbrev pub undos : List Case
undos =
    -- "Move 8, with a and word 0 (else 32, cause 1)"; "Refusals repeat a"; 53 where nothing is kept; 28 is answer 7
    case (page_of sample (command 8 0 1 ∷ command 8 3 0 ∷ back ∷ []))
    ((3 ∷ []) ∷ (1 ∷ 32 ∷ 0 ∷ 0 ∷ []) ∷ (2 ∷ 32 ∷ 3 ∷ 0 ∷ []) ∷ (3 ∷ 53 ∷ 0 ∷ 0 ∷ []) ∷ (0 ∷ 0 ∷ 0 ∷ 0 ∷ 0 ∷ 0 ∷ 0 ∷ 0 ∷ 0 ∷ []) ∷ (1 ∷ []) ∷ [])
    ∷ case (reasons_of sample (command 8 0 1 ∷ command 8 3 0 ∷ back ∷ feed 0 5 ∷ back ∷ [])) ((129 ∷ 129 ∷ 212 ∷ 17 ∷ 28 ∷ []) ∷ [])
    -- "refused ones included": the refused carry is taken back before the feed; a refused move 8 stands in no record's way
    ∷ case (codes_of sample (feed 0 5 ∷ carry 0 ∷ command 8 0 1 ∷ back ∷ back ∷ back ∷ [])) ((4 ∷ 42 ∷ 32 ∷ 7 ∷ 7 ∷ 53 ∷ []) ∷ [])
    -- an unknown move is kept like any other
    ∷ case (codes_of sample (command 9 0 0 ∷ back ∷ back ∷ [])) ((32 ∷ 7 ∷ 53 ∷ []) ∷ [])
    -- "The same record given next [..] gets the same answer": a carry, its sync, and a crash with what it loses
    ∷ case (codes_of sample (first_word ++ (back ∷ carry 0 ∷ carry 0 ∷ back ∷ sync 0 ∷ crash 0 ∷ step 0 ∷ back ∷ back ∷ carry 0 ∷ crash 1 ∷ [])))
    ((4 ∷ 1 ∷ 0 ∷ 2 ∷ 4 ∷ 7 ∷ 4 ∷ 42 ∷ 7 ∷ 0 ∷ 0 ∷ 1 ∷ 7 ∷ 7 ∷ 5 ∷ 0 ∷ []) ∷ [])
    -- "only a 65th pushes out the oldest, for good": 65 records, 64 times back, then 53: the first feed stays
    ∷ case (codes_of sample (feed 0 5 ∷ (times 64 (carry 0 ∷ []) ++ (times 65 (back ∷ []) ++ (step 0 ∷ [])))))
    ((4 ∷ (times 64 (42 ∷ []) ++ (times 64 (7 ∷ []) ++ (53 ∷ 1 ∷ [])))) ∷ [])
    -- what was pushed out doesn't come back when others are taken back
    ∷ case (codes_of sample (feed 0 5 ∷ (times 64 (carry 0 ∷ []) ++ (times 32 (back ∷ []) ++ (times 32 (carry 0 ∷ []) ++ times 65 (back ∷ []))))))
    ((4 ∷ (times 64 (42 ∷ []) ++ (times 32 (7 ∷ []) ++ (times 32 (42 ∷ []) ++ (times 64 (7 ∷ []) ++ (53 ∷ [])))))) ∷ [])
    ∷ []

pub undos_hold : given undos ≡ said undos
unfolding run guard sync_number arrive_number count_number fit
undos_hold = refl

-- "Words carried by a record taken back don't count in the bus order, and feeds taken back don't count as fed"
abbrev retried : List Command
retried = first_word ++ (times 5 (back ∷ []) ++ (feed 0 7 ∷ step 0 ∷ step 0 ∷ step 0 ∷ carry 0 ∷ back ∷ carry 0 ∷ []))

abbrev mail : ℕ → ℕ → Mail
mail k w = record { channel = k; word = w }

pub retried_fed : (let r = run_of sample retried in fed_in retried (answers_in r) (origins_in r)) ≡ mail 0 7 ∷ []
unfolding fed_of standing run guard sync_number arrive_number count_number fit
retried_fed = refl

pub retried_compared : (let r = run_of sample retried in bus_order retried (answers_in r) (origins_in r))
    ≡ from_outside (mail 0 7) ∷ sent_from 0 2 (mail 1 7) ∷ []
unfolding bus_of standing run guard sync_number arrive_number count_number fit
retried_compared = refl

-- "the bytes written for such records stay"
pub retried_written : map (λ (n : Numbers). n.code) (answers_in (run_of sample retried))
    ≡ 4 ∷ 1 ∷ 0 ∷ 2 ∷ 4 ∷ 7 ∷ 7 ∷ 7 ∷ 7 ∷ 7 ∷ 4 ∷ 1 ∷ 0 ∷ 2 ∷ 4 ∷ 7 ∷ 4 ∷ []
unfolding run guard sync_number arrive_number count_number fit
retried_written = refl
