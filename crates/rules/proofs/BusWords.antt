-- W-212: "Equal now means these agree as well." So channel and word agree as they did: without its origins the bus order is the one that was
-- compared before. Who needs channel and word alone, as the label line does, takes `word_order`.
use mathlib.Core.Path.{◌≡◌, refl, ap, ◌∙◌}
use mathlib.Core.Bool.{Bool, true, false, cond}
use mathlib.Core.List.{List, [], ◌∷◌, map}
use Prim.Native.Nat.{ℕ}
use lib.Dec.{eqb}
use Rattle.rules.specs.Machine.{Origin}
use Rattle.rules.specs.Moves.{Command, Answer, Numbers, numbers, origin_of}
use Rattle.rules.specs.Undo.{Noted, standing, answers_of, origins_of}
use Rattle.rules.specs.Transparent.{trace_of, bus_of, bus_order, word_order, without_origins}
use Rattle.rules.specs.Schedule.{decode_schedule}
use Rattle.rules.specs.Run.{Ran}
use Rattle.rules.specs.Transparency.{answers_in, origins_in, FailureTransparency}

no_word : without_origins (bus_of [] []) ≡ trace_of []
unfolding bus_of trace_of
no_word = refl

one_more : (n : Numbers) (o : Origin) (l : List Numbers) (origins : List Origin) → without_origins (bus_of l origins) ≡ trace_of l
    → without_origins (bus_of (n ∷ l) (o ∷ origins)) ≡ trace_of (n ∷ l)
unfolding bus_of trace_of
one_more n o l origins h = rw (← h) (go (eqb n.code 4))
  where
    go : (b : Bool)
        → without_origins (cond b (record { mail = record { channel = n.a; word = n.word }; origin = o } ∷ bus_of l origins) (bus_of l origins))
        ≡ cond b (record { channel = n.a; word = n.word } ∷ without_origins (bus_of l origins)) (without_origins (bus_of l origins))
    go true = refl
    go false = refl

-- of records with what was written for them
pub words-noted : (l : List Noted) → without_origins (bus_of (answers_of l) (origins_of l)) ≡ trace_of (answers_of l)
words-noted [] = no_word
words-noted (x ∷ l) = one_more x.answer x.origin (answers_of l) (origins_of l) (words-noted l)

-- of those that stand, from the bytes that a run left
pub words_stand : (commands : List Command) (answers : List Numbers) (origins : List Origin)
    → without_origins (bus_order commands answers origins) ≡ word_order commands answers origins
words_stand commands answers origins = words-noted (standing commands answers origins)

-- of a list of answers
pub words-answered : (l : List Answer) → without_origins (bus_of (map numbers l) (map origin_of l)) ≡ trace_of (map numbers l)
words-answered [] = no_word
words-answered (a ∷ l) = one_more (numbers a) (origin_of a) (map numbers l) (map origin_of l) (words-answered l)

-- the equality before W-212
pub same-words : (table schedule : List ℕ) (r : Ran) (x : FailureTransparency table schedule r)
    → without_origins x.end.trace ≡ word_order (decode_schedule schedule) (answers_in r) (origins_in r)
same-words table schedule r x = ap without_origins x.same-trace ∙ words_stand (decode_schedule schedule) (answers_in r) (origins_in r)
