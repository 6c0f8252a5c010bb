-- The back key (document 02, W-214): a cabinet with what is kept to go back to beside it, and which records of a list stand in the end.
use Rattle.std.specs.Prelude.{◌≡◌, Bool, false, cond, ◌&&◌, ◌||◌, List, [], ◌∷◌, ◌++◌, map, reverse, ℕ, suc, ◌≤◌, eqb, ltb, length, take}
use Rattle.rules.specs.Sizes.{kept_most}
use Rattle.rules.specs.Table.{Table}
use Rattle.rules.specs.Machine.{Origin}
use Rattle.rules.specs.Cabinet.{Cabinet, started}
use Rattle.rules.specs.Moves.{Command, stray_word, none_kept, Answer, undo_done, refused, Numbers, numbers, origin_of, turn, run_from}

-- ---- one record

-- "The records kept to go back to are held beside the cabinet and are no part of it."
pub record Session : Type 0 where
  pub cabinet : Cabinet
  -- the cabinets from before these records, the last record's first
  pub kept : List Cabinet

-- nothing is kept at first
unfoldable pub opened : Table → Session
unfolding started
opened t = record { cabinet = started t; kept = [] }

-- a session after one record, and the record's answer
pub record Stride : Type 0 where
  pub session : Session
  pub answer : Answer

-- "Move 8"
abbrev pub is_undo : Command → Bool
is_undo r = eqb r.move 8

abbrev pub any_undo : List Command → Bool
any_undo [] = false
any_undo (r ∷ rs) = is_undo r || any_undo rs

abbrev pub undo_key : Command
undo_key = record { move = 8; a = 0; word = 0 }

-- "with a and word 0"
abbrev pub is_bare : Command → Bool
is_bare r = eqb r.a 0 && eqb r.word 0

-- "takes back the last record not yet taken back, refused ones included, and answers 7". "53, no record is kept to go back to, move 8's last
-- refusal." "The cabinet is then exactly as before that record". "A move 8 is itself never taken back": it keeps nothing.
unfoldable pub undone : Session → Command → List Cabinet → Stride
undone s r [] = record { session = s; answer = refused none_kept r.a }
undone s r (c ∷ older) = record { session = record { cabinet = c; kept = older }; answer = undo_done }

-- "Move 8, with a and word 0 (else 32, cause 1)"
unfoldable pub undo : Session → Command → Stride
unfolding undone
undo s r = cond (is_bare r) (undone s r s.kept) (record { session = s; answer = refused stray_word r.a })

-- any other record, refused or not: the cabinet before it is kept. "Of the others 64 are kept to go back to: only a 65th pushes out the oldest,
-- for good."
unfoldable pub forward : Table → Session → Command → Stride
unfolding turn
forward t s r =
    let now = turn t s.cabinet r in
    record { session = record { cabinet = now.cabinet; kept = take kept_most (s.cabinet ∷ s.kept) }; answer = now.answer }

unfoldable pub stride : Table → Session → Command → Stride
unfolding undo forward
stride t s r = cond (is_undo r) (undo s r) (forward t s r)

-- ---- a list of records

pub record Strides : Type 0 where
  pub session : Session
  pub answers : List Answer

unfoldable pub play_from : Table → Session → List Command → Strides
unfolding stride
play_from t s [] = record { session = s; answers = [] }
play_from t s (r ∷ rs) =
    let now = stride t s r in
    let rest = play_from t now.session rs in
    record { session = rest.session; answers = now.answer ∷ rest.answers }

-- ---- which records stand

-- a record with its answer and, W-212, its origin
pub record Noted : Type 0 where
  pub command : Command
  pub answer : Numbers
  pub origin : Origin

abbrev pub noted : List Command → List Numbers → List Origin → List Noted
noted [] l origins = []
noted (r ∷ rs) [] origins = []
noted (r ∷ rs) (n ∷ l) [] = []
noted (r ∷ rs) (n ∷ l) (o ∷ origins) = record { command = r; answer = n; origin = o } ∷ noted rs l origins

-- a record with what is written for this answer
abbrev pub note_of : Command → Answer → Noted
note_of r x = record { command = r; answer = numbers x; origin = origin_of x }

abbrev pub behind_first : {A : Type 0} → List A → List A
behind_first [] = []
behind_first (x ∷ l) = l

-- An answer 7 takes back the last record that stands; a move 8 never stands itself. What stands is listed with the last record first.
abbrev pub stands_after : List Noted → Noted → List Noted
stands_after l x = cond (is_undo x.command) (cond (eqb x.answer.code 7) (behind_first l) l) (x ∷ l)

abbrev pub stands_with : List Noted → List Noted → List Noted
stands_with l [] = l
stands_with l (x ∷ rest) = stands_with (stands_after l x) rest

-- the records that stand in the end, in their order, from the commands and what is written for them alone
unfoldable pub standing : List Command → List Numbers → List Origin → List Noted
standing commands answers origins = reverse (stands_with [] (noted commands answers origins))

abbrev pub commands_of : List Noted → List Command
commands_of l = map (λ (x : Noted). x.command) l

abbrev pub answers_of : List Noted → List Numbers
answers_of l = map (λ (x : Noted). x.answer) l

abbrev pub origins_of : List Noted → List Origin
origins_of l = map (λ (x : Noted). x.origin) l

-- ---- what is kept, as records to do again: what code may hold instead of cabinets

-- the cabinets before each command of a list, the last command's first
unfoldable pub cabinets_before : Table → Cabinet → List Command → List Cabinet
unfolding turn
cabinets_before t c [] = []
cabinets_before t c (r ∷ rs) = cabinets_before t (turn t c r).cabinet rs ++ (c ∷ [])

-- Session s goes k records back from what these records make of a cabinet.
pub record Keeps (t : Table) (base : Cabinet) (records : List Command) (k : ℕ) (s : Session) : Type 0 where
  pub enough : k ≤ length records
  pub few : k ≤ kept_most
  pub cabinet-is : s.cabinet ≡ (run_from t base records).cabinet
  pub kept_are : s.kept ≡ take k (cabinets_before t base records)

-- how many are kept after one record more
abbrev pub one_kept : ℕ → ℕ
one_kept k = cond (ltb k kept_most) (suc k) kept_most
