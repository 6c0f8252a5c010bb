-- W-214: "The cabinet is then exactly as before that record", and "The same record given next, with nothing between, gets the same answer":
-- where in a list of commands each record that stands was given, and what a move 8 that is answered 7 makes of the last of them.
use mathlib.Core.Path.{◌≡◌, refl, ap, sym, ◌∙◌}
use mathlib.Core.Bool.{Bool, true, false, cond}
use mathlib.Core.List.{List, [], ◌∷◌, ◌++◌, map, map-append, reverse, reverse-cons, append_assoc, append-nil}
use Prim.Native.Nat.{ℕ, zero, suc}
use native.Mathlib.Omega.{arith}
use lib.Dec.{eqb}
use lib.Seq.{append_snoc}
use Rattle.facts.specs.Tests.{no_way}
use Rattle.rules.specs.Table.{Table}
use Rattle.rules.specs.Cabinet.{started}
use Rattle.rules.specs.Moves.{Command, Answer, undo_done, numbers, origin_of}
use Rattle.rules.specs.Undo.{Session, opened, Stride, is_undo, undo_key, stride, play_from, Noted, noted, note_of, behind_first}
use Rattle.rules.specs.Undo.{stands_after, stands_with, standing, commands_of, Keeps}
use Rattle.rules.specs.Transparent.{finished, shown, shown_from, session_after, ended, answer_next, Undoes}
use Rattle.rules.proofs.Undo.{play_parts, undo_refuses}
use Rattle.rules.proofs.Standing.{Stands, note, stood, stands, ended_is}

-- ---- one record more of a list

noted_more : (t : Table) (s : Session) (rs : List Command) (r : Command) (x : Answer)
    → noted (rs ++ (r ∷ [])) (map numbers (play_from t s rs).answers ++ (numbers x ∷ []))
    (map origin_of (play_from t s rs).answers ++ (origin_of x ∷ []))
    ≡ noted rs (map numbers (play_from t s rs).answers) (map origin_of (play_from t s rs).answers) ++ (note_of r x ∷ [])
unfolding play_from
noted_more t s [] r x = refl
noted_more t s (q ∷ rs) r x = rw (noted_more t (stride t s q).session rs r x)

stands_snoc : (l rest : List Noted) (x : Noted) → stands_with l (rest ++ (x ∷ [])) ≡ stands_after (stands_with l rest) x
stands_snoc l [] x = refl
stands_snoc l (y ∷ rest) x = stands_snoc (stands_after l y) rest x

module _ (t : Table) where
  stood_more : (commands : List Command) (r : Command)
      → stood t (commands ++ (r ∷ [])) ≡ stands_after (stood t commands) (note t (session_after t commands) r)
  unfolding play_from numbers origin_of
  stood_more commands r =
      let answers = (play_from t (opened t) commands).answers in
      rw (
        play_parts t (opened t) commands (r ∷ []),
        map-append numbers answers (answer_next t commands r ∷ []),
        map-append origin_of answers (answer_next t commands r ∷ []),
        noted_more t (opened t) commands r (answer_next t commands r),
      )
      (stands_snoc [] (noted commands (shown t commands) (shown_from t commands)) (note t (session_after t commands) r))

  -- ---- where each record that stands was given

  -- a record of a list of commands, with what stood before it
  pub record Given (commands : List Command) (x : Noted) (l : List Noted) : Type 0 where
    pub front : List Command
    pub behind : List Command
    pub is-given : commands ≡ front ++ (x.command ∷ behind)
    pub no_undo : is_undo x.command ≡ false
    pub its_answer : x ≡ note t (session_after t front) x.command
    pub stood_before : stood t front ≡ l

  abbrev AllGiven : List Command → List Noted → Type 0
  AllGiven commands [] = Unit {0}
  AllGiven commands (x ∷ l) = Given commands x l × AllGiven commands l

  given_later : (commands : List Command) (r : Command) (l : List Noted) → AllGiven commands l → AllGiven (commands ++ (r ∷ [])) l
  given_later commands r [] h = tt
  given_later commands r (x ∷ l) h =
      let g = h.0 in (
        record {
          front = g.front;
          behind = g.behind ++ (r ∷ []);
          is-given = rw g.is-given (append_assoc g.front (x.command ∷ g.behind) (r ∷ []));
          no_undo = g.no_undo;
          its_answer = g.its_answer;
          stood_before = g.stood_before;
        },
        given_later commands r l h.1,
      )

  given_fewer : (commands : List Command) (l : List Noted) → AllGiven commands l → AllGiven commands (behind_first l)
  given_fewer commands [] h = tt
  given_fewer commands (x ∷ l) h = h.1

  given-more : (commands : List Command) (r : Command) → AllGiven commands (stood t commands)
      → AllGiven (commands ++ (r ∷ [])) (stood t (commands ++ (r ∷ [])))
  given-more commands r h = rw (stood_more commands r) (go (is_undo r) refl (eqb (numbers (answer_next t commands r)).code 7))
    where
      now : List Noted
      now = stood t commands

      later : AllGiven (commands ++ (r ∷ [])) now
      later = given_later commands r now h

      go : (b : Bool) → is_undo r ≡ b → (seven : Bool)
          → AllGiven (commands ++ (r ∷ [])) (cond b (cond seven (behind_first now) now) (note t (session_after t commands) r ∷ now))
      go true e true = given_fewer (commands ++ (r ∷ [])) now later
      go true e false = later
      go false e seven =
          (record { front = commands; behind = []; is-given = refl; no_undo = e; its_answer = refl; stood_before = refl }, later)

  given_on : (front rest : List Command) → AllGiven front (stood t front) → AllGiven (front ++ rest) (stood t (front ++ rest))
  given_on front [] h = rw (append-nil front) h
  given_on front (r ∷ rest) h = rw (← append_snoc front r rest) (given_on (front ++ (r ∷ [])) rest (given-more front r h))

  all_given : (commands : List Command) → AllGiven commands (stood t commands)
  all_given commands = given_on [] commands tt

  -- ---- "The cabinet is then exactly as before that record"

  -- the answer of a record that is no move 8 is that of the cabinet
  answer_by_cabinet : (s u : Session) (r : Command) → is_undo r ≡ false → s.cabinet ≡ u.cabinet
      → (stride t s r).answer ≡ (stride t u r).answer
  unfolding stride
  answer_by_cabinet s u r e same = rw (e, same)

  module _ (commands : List Command) (seven : answer_next t commands undo_key ≡ undo_done) where
    now_stands : stood t (commands ++ (undo_key ∷ [])) ≡ behind_first (stood t commands)
    unfolding numbers
    now_stands = stood_more commands undo_key ∙ rw seven

    -- something stands: with nothing kept it would be 53
    undoes_last : (l : List Noted) → stood t commands ≡ l → Stands t (session_after t commands) l → AllGiven commands l → Undoes t commands
    unfolding standing
    undoes_last [] is h g = absurd (nothing-stands h.count h.keeps)
      where
        nothing-stands : (k : ℕ) → Keeps t (started t) [] k (session_after t commands) → ⊥
        nothing-stands zero keeps =
            let e = undo_refuses t (started t) (session_after t commands) [] keeps undo_key refl refl in
            no_way (let f = ap (λ (x : Stride). x.answer) e in cc)
        nothing-stands (suc k) keeps = let a = keeps.enough in omega arith
    undoes_last (x ∷ l) is h g =
        let given = g.0 in
        let then : List Command = commands ++ (undo_key ∷ []) in
        let before : ended t given.front ≡ finished t (commands_of (reverse l)) = ended_is t given.front ∙ rw given.stood_before in
        let now : ended t then ≡ finished t (commands_of (reverse l)) = ended_is t then ∙ rw (now_stands, is) in
        let same : ended t then ≡ ended t given.front = now ∙ sym before in
        record {
          last = x.command;
          front = given.front;
          behind = given.behind;
          is-given = given.is-given;
          is_last = rw (is, reverse-cons x l, given.stood_before) (ap (λ (y : Noted). reverse l ++ (y ∷ [])) given.its_answer);
          no_undo = given.no_undo;
          as_before = same;
          same_answer = answer_by_cabinet (session_after t then) (session_after t given.front) x.command given.no_undo same;
          stands_now = rw (now_stands, is, given.stood_before);
        }

    pub undoes : Undoes t commands
    undoes = undoes_last (stood t commands) refl (stands t commands) (all_given commands)
