-- W-202: "The bus order is unaffected." A carried sync answers 5 with how many words it dropped, where document 01 has 0; the bus order is the
-- answers 4, so it is the same by both numberings, and so are the feeds that answered 4.
use mathlib.Core.Path.{◌≡◌, refl}
use mathlib.Core.Bool.{cond}
use mathlib.Core.List.{List, [], ◌∷◌, map}
use lib.Dec.{eqb}
use Rattle.rules.specs.Machine.{Origin, BusWord}
use Rattle.rules.specs.Moves.{Command, Answer, step_done, issue_done, crash_done, rejoin_done, rebackup_done, undo_done, received, queued}
use Rattle.rules.specs.Moves.{suppressed, transmitted, injected, sync_kept, sync_lost, transfer_kept, refused, Numbers, numbered, numbers}
use Rattle.rules.specs.Transparent.{bus_of, fed_of}

-- document 01's own numbers: "5 sync carried [..] (process, 0)"
abbrev pub numbers_before : Answer → Numbers
numbers_before (sync_kept p dropped) = numbered 5 p 0
numbers_before step_done = numbers step_done
numbers_before issue_done = numbers issue_done
numbers_before crash_done = numbers crash_done
numbers_before rejoin_done = numbers rejoin_done
numbers_before rebackup_done = numbers rebackup_done
numbers_before undo_done = numbers undo_done
numbers_before (received x) = numbers (received x)
numbers_before (queued x) = numbers (queued x)
numbers_before (suppressed x) = numbers (suppressed x)
numbers_before (transmitted x) = numbers (transmitted x)
numbers_before (injected x) = numbers (injected x)
numbers_before (sync_lost p) = numbers (sync_lost p)
numbers_before (transfer_kept p) = numbers (transfer_kept p)
numbers_before (refused why a) = numbers (refused why a)

-- the two differ in the word of an answer 5 alone
same_code : (a : Answer) → (numbers a).code ≡ (numbers_before a).code
unfolding numbers
same_code (sync_kept p dropped) = refl
same_code step_done = refl
same_code issue_done = refl
same_code crash_done = refl
same_code rejoin_done = refl
same_code rebackup_done = refl
same_code undo_done = refl
same_code (received x) = refl
same_code (queued x) = refl
same_code (suppressed x) = refl
same_code (transmitted x) = refl
same_code (injected x) = refl
same_code (sync_lost p) = refl
same_code (transfer_kept p) = refl
same_code (refused why a) = refl

-- what an answer of this origin adds to the bus order
added : Origin → Numbers → List BusWord → List BusWord
added o n others = cond (eqb n.code 4) (record { mail = record { channel = n.a; word = n.word }; origin = o } ∷ others) others

same_added : (o : Origin) (a : Answer) (others : List BusWord) → added o (numbers a) others ≡ added o (numbers_before a) others
unfolding numbers added
same_added o (sync_kept p dropped) others = refl
same_added o step_done others = refl
same_added o issue_done others = refl
same_added o crash_done others = refl
same_added o rejoin_done others = refl
same_added o rebackup_done others = refl
same_added o undo_done others = refl
same_added o (received x) others = refl
same_added o (queued x) others = refl
same_added o (suppressed x) others = refl
same_added o (transmitted x) others = refl
same_added o (injected x) others = refl
same_added o (sync_lost p) others = refl
same_added o (transfer_kept p) others = refl
same_added o (refused why a) others = refl

-- "The bus order is unaffected."
pub bus_of_unaffected : (l : List Answer) (origins : List Origin) → bus_of (map numbers l) origins ≡ bus_of (map numbers_before l) origins
unfolding bus_of added
bus_of_unaffected [] origins = refl
bus_of_unaffected (a ∷ l) [] = refl
bus_of_unaffected (a ∷ l) (o ∷ origins) = rw (bus_of_unaffected l origins) (same_added o a (bus_of (map numbers_before l) origins))

pub fed_of_unaffected : (rs : List Command) (l : List Answer) → fed_of rs (map numbers l) ≡ fed_of rs (map numbers_before l)
unfolding fed_of
fed_of_unaffected [] l = refl
fed_of_unaffected (r ∷ rs) [] = refl
fed_of_unaffected (r ∷ rs) (a ∷ l) =
    rw (fed_of_unaffected rs l, same_code a)
