-- The plain cabinet on the sample, computed: it runs, it gives the sample page's bus order and last line, and it refuses. And what demand 3
-- compares, computed of our run of the page with its crash: what was fed, the bus order and the end are the plain run's.
use mathlib.Core.Path.{◌≡◌, refl}
use mathlib.Core.Option.{Option, none, some}
use mathlib.Core.List.{List, [], ◌∷◌, ◌++◌, map}
use Prim.Native.Nat.{ℕ}
use lib.ListN.{replicate}
use Rattle.backup.specs.Replica.{fit, arrive_number, count_number}
use Rattle.rules.specs.Machine.{Mail, Origin, sent_from, from_outside}
use Rattle.rules.specs.Reference.{Reference, Action, inject, step, reference_start, reference_run}
use Rattle.rules.specs.Moves.{guard, Numbers}
use Rattle.rules.specs.Undo.{standing}
use Rattle.rules.specs.Transparent.{bus_of, fed_of, bus_order, fed_in, machines_of, ended}
use Rattle.rules.specs.Format.{decode_table}
use Rattle.rules.specs.Run.{run}
use Rattle.rules.specs.Transparency.{answers_in, origins_in}
use Rattle.rules.proofs.Cases.{run_of}
use Rattle.rules.proofs.Marked.{sample, sample_page}

abbrev pub mail : ℕ → ℕ → Mail
mail channel word = record { channel = channel; word = word }

abbrev plain_run : List Action → Option Reference
plain_run l = reference_run (decode_table sample) (reference_start (decode_table sample)) l

-- the page's two feeds and eight steps
abbrev plain_page : List Action
plain_page = inject (mail 0 5) ∷ inject (mail 0 7) ∷ replicate 8 (step 0)

abbrev plain_end : Reference
plain_end = record {
  machines = record { registers = 7 ∷ 12 ∷ 0 ∷ 0 ∷ []; pc = 0; mailbox = [] } ∷ [];
  trace = from_outside (mail 0 5) ∷ from_outside (mail 0 7) ∷ sent_from 0 2 (mail 1 5) ∷ sent_from 0 2 (mail 1 12) ∷ [];
}

-- that run; one more step, for which there is no word; a step of no process; feeds of a channel whose sender is a process, and of none
pub plain_page_lem : map plain_run
    (plain_page ∷ (plain_page ++ (step 0 ∷ [])) ∷ (step 1 ∷ []) ∷ (inject (mail 1 5) ∷ []) ∷ (inject (mail 2 5) ∷ []) ∷ [])
    ≡ some plain_end ∷ none ∷ none ∷ none ∷ none ∷ []
unfolding reference_run reference_start decode_table
plain_page_lem = refl

-- ---- what demand 3 compares

abbrev page_answers : List Numbers
page_answers = answers_in (run_of sample sample_page)

abbrev page_origins : List Origin
page_origins = origins_in (run_of sample sample_page)

-- "its feeds are, in order, the feeds of our list that answered 4"
pub page_fed : fed_in sample_page page_answers page_origins ≡ mail 0 5 ∷ mail 0 7 ∷ []
unfolding fed_of standing run guard fit arrive_number count_number
page_fed = refl

-- "the answers 4, each as its channel and word", with sender and place: its one SEND stands at place 2
pub page_compared : bus_order sample_page page_answers page_origins ≡ plain_end.trace
unfolding bus_of standing run guard fit arrive_number count_number
page_compared = refl

-- "At a quiet end its places, registers and inboxes": those after our last record
pub page_end : machines_of (ended (decode_table sample) sample_page) ≡ plain_end.machines
unfolding run guard fit arrive_number count_number
page_end = refl
