-- W-212, computed: "A program with two sends of the same word can hide a wrong jump there." Two tables that differ in where a JUMP goes, with
-- a crash among the records: answers, reasons and report are the same byte for byte, and so is the bus order of channels and words. The
-- origins are not.
use mathlib.Core.Path.{◌≡◌, refl, ap, sym, ◌∙◌}
use mathlib.Core.Option.{some}
use mathlib.Core.List.{List, [], ◌∷◌, ◌++◌}
use Prim.Native.Nat.{ℕ}
use native.Mathlib.Omega.{arith}
use lib.ListN.{get_or, replicate}
use Rattle.backup.specs.Replica.{fit, arrive_number, count_number}
use Rattle.rules.specs.Table.{TAKE, SEND, JUMP}
use Rattle.rules.specs.Machine.{Mail, BusWord, sent_from, from_outside}
use Rattle.rules.specs.Reference.{Action, inject, reference_start, reference_run}
use Rattle.rules.specs.Moves.{guard, Command}
use Rattle.rules.specs.Undo.{standing}
use Rattle.rules.specs.Transparent.{trace_of, bus_of, bus_order, word_order}
use Rattle.rules.specs.Format.{decode_table}
use Rattle.rules.specs.Run.{run}
use Rattle.rules.specs.Transparency.{answers_in, origins_in}
use Rattle.rules.proofs.Cases.{step, carry, feed, crash, times, channel, placement, cabinet, table_bytes, run_of, page_of}
use Rattle.rules.proofs.ReferenceCases.{mail}

-- a word that is not 0 is sent from the place that the first JUMP goes to: one SEND stands at 2, another at 4
abbrev jumping_to : ℕ → List ℕ
jumping_to place =
    table_bytes
    (cabinet 2 (channel 255 0 ∷ channel 0 255 ∷ [])
    (placement 0 1 (TAKE 0 0 ∷ JUMP 0 place ∷ SEND 0 1 ∷ JUMP 0 0 ∷ SEND 0 1 ∷ JUMP 0 0 ∷ []) ∷ []))

-- a word is carried, a second one waits when its board crashes; on the other board the first is held back, and the second carried
abbrev crashing : List Command
crashing =
    feed 0 7 ∷ (times 3 (step 0 ∷ []) ++ (carry 0 ∷ step 0
    ∷ feed 0 9 ∷ (times 3 (step 0 ∷ []) ++ (crash 0 ∷ (times 7 (step 0 ∷ []) ++ (carry 1 ∷ step 0 ∷ []))))))

-- all that could be seen before W-212: the page, and the reasons
abbrev seen : ℕ → List (List ℕ)
seen place = (run_of (jumping_to place) crashing).buffers.reasons ∷ page_of (jumping_to place) crashing

abbrev seen_both : List (List ℕ)
seen_both =
    (17 ∷ 4 ∷ 0 ∷ 8 ∷ 16 ∷ 0 ∷ 17 ∷ 4 ∷ 0 ∷ 8 ∷ 2 ∷ 4 ∷ 0 ∷ 12 ∷ 0 ∷ 4 ∷ 0 ∷ 8 ∷ 16 ∷ 0 ∷ [])
    ∷ (20 ∷ [])
    ∷ (1 ∷ 4 ∷ 0 ∷ 7 ∷ []) ∷ (2 ∷ 1 ∷ 0 ∷ 7 ∷ []) ∷ (3 ∷ 0 ∷ 0 ∷ 0 ∷ []) ∷ (4 ∷ 2 ∷ 1 ∷ 7 ∷ []) ∷ (5 ∷ 4 ∷ 1 ∷ 7 ∷ [])
    ∷ (6 ∷ 0 ∷ 0 ∷ 0 ∷ []) ∷ (7 ∷ 4 ∷ 0 ∷ 9 ∷ []) ∷ (8 ∷ 1 ∷ 0 ∷ 9 ∷ []) ∷ (9 ∷ 0 ∷ 0 ∷ 0 ∷ []) ∷ (10 ∷ 2 ∷ 1 ∷ 9 ∷ []) ∷ (11 ∷ 0 ∷ 0 ∷ 0 ∷ [])
    ∷ (12 ∷ 1 ∷ 0 ∷ 7 ∷ []) ∷ (13 ∷ 0 ∷ 0 ∷ 0 ∷ []) ∷ (14 ∷ 3 ∷ 1 ∷ 7 ∷ []) ∷ (15 ∷ 0 ∷ 0 ∷ 0 ∷ [])
    ∷ (16 ∷ 1 ∷ 0 ∷ 9 ∷ []) ∷ (17 ∷ 0 ∷ 0 ∷ 0 ∷ []) ∷ (18 ∷ 2 ∷ 1 ∷ 9 ∷ []) ∷ (19 ∷ 4 ∷ 1 ∷ 9 ∷ []) ∷ (20 ∷ 0 ∷ 0 ∷ 0 ∷ [])
    ∷ (0 ∷ 1 ∷ 0 ∷ 0 ∷ 0 ∷ 9 ∷ 0 ∷ 0 ∷ 0 ∷ [])
    ∷ (1 ∷ [])
    ∷ []

pub jump_hidden : seen 2 ∷ seen 4 ∷ [] ≡ seen_both ∷ seen_both ∷ []
unfolding run guard fit arrive_number count_number
jump_hidden = refl

-- the bus order of channels and words
abbrev words : ℕ → List Mail
words place = let r = run_of (jumping_to place) crashing in word_order crashing (answers_in r) (origins_in r)

abbrev words_both : List Mail
words_both = mail 0 7 ∷ mail 1 7 ∷ mail 0 9 ∷ mail 1 9 ∷ []

pub words_agree : words 2 ∷ words 4 ∷ [] ≡ words_both ∷ words_both ∷ []
unfolding trace_of standing run guard fit arrive_number count_number
words_agree = refl

-- and what is compared now
abbrev bus : ℕ → List BusWord
bus place = let r = run_of (jumping_to place) crashing in bus_order crashing (answers_in r) (origins_in r)

abbrev bus_from : ℕ → List BusWord
bus_from place = from_outside (mail 0 7) ∷ sent_from 0 place (mail 1 7) ∷ from_outside (mail 0 9) ∷ sent_from 0 place (mail 1 9) ∷ []

pub jumped_to_2 : bus 2 ≡ bus_from 2
unfolding bus_of standing run guard fit arrive_number count_number
jumped_to_2 = refl

pub jumped_to_4 : bus 4 ≡ bus_from 4
unfolding bus_of standing run guard fit arrive_number count_number
jumped_to_4 = refl

-- the place of the second word
abbrev place_shown : List BusWord → ℕ
place_shown l = (get_or l 1 (from_outside (mail 0 0))).origin.pc

pub jump_shown : bus 2 ≡ bus 4 → ⊥
jump_shown e =
    let a : place_shown (bus_from 2) ≡ place_shown (bus_from 4) = ap place_shown (sym jumped_to_2 ∙ e ∙ jumped_to_4) in
    omega arith

-- the bytes themselves: 255 and 0 for the feeds, 255 and 255 where no word was on the bus
pub origins-written : (run_of (jumping_to 4) crashing).buffers.origins
    ≡ (255 ∷ 0 ∷ []) ++ (replicate 6 255 ++ ((0 ∷ 4 ∷ 255 ∷ 255 ∷ 255 ∷ 0 ∷ []) ++ (replicate 22 255 ++ (0 ∷ 4 ∷ 255 ∷ 255 ∷ []))))
unfolding run guard fit arrive_number count_number
origins-written = refl

-- the plain cabinet lists them too
pub plain_lists : reference_run (decode_table (jumping_to 4)) (reference_start (decode_table (jumping_to 4)))
    (inject (mail 0 7) ∷ (replicate 4 (Action.step 0) ++ (inject (mail 0 9) ∷ replicate 4 (Action.step 0))))
    ≡ some (record { machines = record { registers = 9 ∷ 0 ∷ 0 ∷ 0 ∷ []; pc = 0; mailbox = [] } ∷ []; trace = bus_from 4 })
unfolding reference_run reference_start decode_table
plain_lists = refl
