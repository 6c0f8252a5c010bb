-- W-214, of any list of commands: the cabinet is the one that the standing records leave from the start, and what is written for them are
-- their answers and origins there. So what holds of every cabinet that commands reach holds of a session's.
use mathlib.Core.Path.{◌≡◌, refl, ap, sym, ◌∙◌}
use mathlib.Core.Bool.{Bool, true, false, cond}
use mathlib.Core.List.{List, [], ◌∷◌, ◌++◌, map, map-append, reverse, reverse-cons}
use Prim.Native.Nat.{ℕ, zero, suc, ◌+◌, ◌≤◌}
use native.Mathlib.Omega.{arith}
use lib.Dec.{eqb}
use lib.ListN.{length, length-reverse}
use Rattle.rules.specs.Table.{Table}
use Rattle.rules.specs.Machine.{Origin}
use Rattle.rules.specs.Cabinet.{Cabinet, started}
use Rattle.rules.specs.Moves.{Command, Answer, Numbers, numbers, origin_of, turn, run_from}
use Rattle.rules.specs.Undo.{Session, opened, is_undo, any_undo, is_bare, stride, play_from, Noted, noted, note_of, behind_first, stands_after}
use Rattle.rules.specs.Undo.{stands_with, standing, commands_of, answers_of, origins_of, Keeps, one_kept}
use Rattle.rules.specs.Transparent.{answered, originated, finished, shown, shown_from, standing_after, ended}
use Rattle.rules.proofs.Undo.{one_answer-more, keeps-none, keeps-forward, forward-answers, undo_refuses, undo-answers, keeps-undo}
use Rattle.rules.proofs.Undo.{undo_strays, forward_many}

-- ---- a session and the records that stand in it

-- each record of a list, the last one first, has the answer that it gets from the cabinet which those before it leave
abbrev pub Answered : Table → List Noted → Type 0
Answered t [] = Unit {0}
Answered t (x ∷ l) = (x ≡ note_of x.command (turn t (finished t (commands_of (reverse l))) x.command).answer) × Answered t l

-- the records of l, the last one first, stand in session s
pub record Stands (t : Table) (s : Session) (l : List Noted) : Type 0 where
  pub count : ℕ
  pub keeps : Keeps t (started t) (commands_of (reverse l)) count s
  pub answers : Answered t l

commands-more : (x : Noted) (l : List Noted) → commands_of (reverse (x ∷ l)) ≡ commands_of (reverse l) ++ (x.command ∷ [])
commands-more x l = rw (reverse-cons x l) (map-append (λ (y : Noted). y.command) (reverse l) (x ∷ []))

-- a record with what is written for it
abbrev pub note : Table → Session → Command → Noted
note t s r = note_of r (stride t s r).answer

module _ (t : Table) where
  stands-forward : (s : Session) (l : List Noted) → Stands t s l → (r : Command) → is_undo r ≡ false
      → Stands t (stride t s r).session (note t s r ∷ l)
  stands-forward s l h r e =
      let records : List Command = commands_of (reverse l) in
      record {
        count = one_kept h.count;
        keeps = rw (commands-more (note t s r) l) (keeps-forward t (started t) s records h.keeps r e);
        answers = (ap (note_of r) (forward-answers t (started t) s records h.keeps r e), h.answers);
      }

  -- what stands after a move 8
  abbrev after_undo : Session → List Noted → Command → List Noted
  after_undo s l r = cond (eqb (numbers (stride t s r).answer).code 7) (behind_first l) l

  stands-undo : (s : Session) (l : List Noted) → Stands t s l → (r : Command) → is_undo r ≡ true → (bare : Bool) → is_bare r ≡ bare
      → Stands t (stride t s r).session (after_undo s l r)
  unfolding numbers
  stands-undo s l h r e false b = rw (undo_strays t s r e b) h
  stands-undo s l h r e true b = go h.count l h.keeps h.answers
    where
      go : (k : ℕ) (l : List Noted) → Keeps t (started t) (commands_of (reverse l)) k s → Answered t l
          → Stands t (stride t s r).session (after_undo s l r)
      go zero l keeps answers =
          rw (undo_refuses t (started t) s (commands_of (reverse l)) keeps r e b) record { count = 0; keeps = keeps; answers = answers }
      go (suc k) [] keeps answers = absurd (let a = keeps.enough in omega arith)
      go (suc k) (x ∷ l) keeps answers =
          let records : List Command = commands_of (reverse l) in
          let last : Keeps t (started t) (records ++ (x.command ∷ [])) (suc k) s = rw (commands-more x l) at keeps in
          rw (undo-answers t (started t) s records x.command last r e b)
          record { count = k; keeps = keeps-undo t (started t) s records x.command last r e b; answers = answers.1 }

  pub stands-more : (s : Session) (l : List Noted) → Stands t s l → (r : Command)
      → Stands t (stride t s r).session (stands_after l (note t s r))
  stands-more s l h r = go (is_undo r) refl
    where
      go : (b : Bool) → is_undo r ≡ b → Stands t (stride t s r).session (stands_after l (note t s r))
      go true e = rw e (stands-undo s l h r e (is_bare r) refl)
      go false e = rw e (stands-forward s l h r e)

  stands-run : (s : Session) (l : List Noted) → Stands t s l → (commands : List Command)
      → (let rest = play_from t s commands in
      Stands t rest.session (stands_with l (noted commands (map numbers rest.answers) (map origin_of rest.answers))))
  unfolding play_from
  stands-run s l h [] = h
  stands-run s l h (r ∷ rs) = stands-run (stride t s r).session (stands_after l (note t s r)) (stands-more s l h r) rs

  pub stands-none : Stands t (opened t) []
  unfolding opened
  stands-none = record { count = 0; keeps = keeps-none t (started t); answers = tt }

  -- ---- after a list of commands

  -- what stands, the last record first
  abbrev pub stood : List Command → List Noted
  stood commands = stands_with [] (noted commands (shown t commands) (shown_from t commands))

  pub stands : (commands : List Command) → Stands t (play_from t (opened t) commands).session (stood commands)
  stands commands = stands-run (opened t) [] stands-none commands

  -- the records that stand, in their order
  abbrev pub standing_in : List Command → List Command
  standing_in commands = commands_of (standing_after t commands)

  -- the cabinet is the one that they leave from the start
  pub ended_is : (commands : List Command) → ended t commands ≡ finished t (standing_in commands)
  unfolding standing
  ended_is commands = (stands commands).keeps.cabinet-is

  -- those of a list with no move 8 are all of it
  pub ended-forward : (commands : List Command) → any_undo commands ≡ false → ended t commands ≡ finished t commands
  unfolding opened
  ended-forward commands h = (forward_many t (started t) 0 (opened t) [] (keeps-none t (started t)) commands h).1.cabinet-is

  -- so that what holds of every cabinet that commands reach holds of every session's
  pub in_session : (P : Cabinet → Type 0) → ((commands : List Command) → P (finished t commands)) → (commands : List Command) → P (ended t commands)
  in_session P h commands = rw (ended_is commands) (h (standing_in commands))

  -- and what is written for them are their answers and origins: of whatever is noted of an answer
  answers_stand : {A : Type 0} (f : Answer → A) (g : Noted → A) → ((r : Command) (x : Answer) → g (note_of r x) ≡ f x)
      → (l : List Noted) → Answered t l → map g (reverse l) ≡ map f (run_from t (started t) (commands_of (reverse l))).answers
  unfolding run_from
  answers_stand f g same [] h = refl
  answers_stand f g same (x ∷ l) h =
      let records : List Command = commands_of (reverse l) in
      let now = (turn t (finished t records) x.command).answer in
      let one : g x ≡ f now = ap g h.0 ∙ same x.command now in
      rw (
        commands-more x l,
        reverse-cons x l,
        map-append g (reverse l) (x ∷ []),
        one_answer-more t (started t) records x.command,
        one,
        answers_stand f g same l h.1,
      )
      (sym (map-append f (run_from t (started t) records).answers (now ∷ [])))

  pub answers_are : (commands : List Command) → answers_of (standing_after t commands) ≡ answered t (standing_in commands)
  unfolding standing
  answers_are commands = answers_stand numbers (λ (x : Noted). x.answer) (λ r x. refl) (stood commands) (stands commands).answers

  pub origins_are : (commands : List Command) → origins_of (standing_after t commands) ≡ originated t (standing_in commands)
  unfolding standing
  origins_are commands = answers_stand origin_of (λ (x : Noted). x.origin) (λ r x. refl) (stood commands) (stands commands).answers

-- ---- how many stand

after-length : (l : List Noted) (x : Noted) → length (stands_after l x) ≤ suc (length l)
after-length l x = go (is_undo x.command) (eqb x.answer.code 7) l
  where
    go : (b seven : Bool) (l : List Noted) → length (cond b (cond seven (behind_first l) l) (x ∷ l)) ≤ suc (length l)
    go true true [] = omega arith
    go true true (y ∷ l) = omega arith
    go true false l = omega arith
    go false seven l = omega arith

with_length_lem : (l rest : List Noted) → length (stands_with l rest) ≤ length l + length rest
with_length_lem l [] = omega arith
with_length_lem l (x ∷ rest) = let a = with_length_lem (stands_after l x) rest in let b = after-length l x in omega arith

noted-length : (commands : List Command) (answers : List Numbers) (origins : List Origin)
    → length (noted commands answers origins) ≤ length answers
noted-length [] answers origins = omega arith
noted-length (r ∷ rs) [] origins = omega arith
noted-length (r ∷ rs) (n ∷ l) [] = omega arith
noted-length (r ∷ rs) (n ∷ l) (o ∷ origins) = let a = noted-length rs l origins in omega arith

-- no more than were answered
pub standing-length : (commands : List Command) (answers : List Numbers) (origins : List Origin)
    → length (standing commands answers origins) ≤ length answers
unfolding standing
standing-length commands answers origins =
    rw (length-reverse (stands_with [] (noted commands answers origins)))
    (let a = with_length_lem [] (noted commands answers origins) in let b = noted-length commands answers origins in omega arith)
