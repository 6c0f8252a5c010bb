-- Demand 3 of document 01, said once, and of a list of commands. Transparency says it of the bytes of a run.
use Rattle.std.specs.Prelude.{◌≡◌, Bool, true, false, cond, ◌&&◌, List, [], ◌∷◌, ◌++◌, map, ℕ, eqb}
use Rattle.std.proofs.Math.Option.{none, some}
use Rattle.rules.specs.Table.{Table}
use Rattle.rules.specs.Machine.{Mail, Origin, BusWord, Machine}
use Rattle.rules.specs.Reference.{Reference, Action, step, reference_start, reference_run, act, injections}
use Rattle.rules.specs.Cabinet.{Process, Cabinet, started, quiescent}
use Rattle.rules.specs.Moves.{Command, Answer, Numbers, numbers, origin_of, run_from}
use Rattle.rules.specs.Undo.{Session, opened, is_undo, undo_key, stride, play_from, Noted, note_of, standing, commands_of, answers_of, origins_of}

-- Of a table, the words that were fed, the bus order, whether the end was quiet, and the machines at the end: some plain run of the table
-- explains them. It rests on nothing else of our cabinet.
pub record Transparent (t : Table) (fed : List Mail) (trace : List BusWord) (quiet : Bool) (machines : List Machine) : Type 0 where
  -- "The plain cabinet is given the table and a list of feeds and steps, and nothing of our cabinet." "Which steps it holds, and where, is free"
  pub actions : List Action
  -- the plain cabinet afterwards
  pub end : Reference
  -- "A run of the plain cabinet, or plain run, is such a list with nothing refused."
  pub ran : reference_run t (reference_start t) actions ≡ some end
  -- "its feeds are, in order, the feeds of our list that answered 4"
  pub injected : injections actions ≡ fed
  -- its bus order is ours. W-212: channel, word, sender and place of each
  pub same-trace : end.trace ≡ trace
  -- "At a quiet end its places, registers and inboxes, each inbox with channels and order, are compared with those that the five moves give
  -- after our last record."
  pub same_end : quiet ≡ true → end.machines ≡ machines
  -- "None could step further: a step of any process would be refused."
  pub no_step : quiet ≡ true → (p : ℕ) → act t end (step p) ≡ none

-- ---- what is compared, from commands and answers

-- "The bus order is the answers 4, each as its channel and word, in the order of their records."
unfoldable pub trace_of : List Numbers → List Mail
trace_of [] = []
trace_of (n ∷ l) =
    let others = trace_of l in
    cond (eqb n.code 4) (record { channel = n.a; word = n.word } ∷ others) others

-- the same with the origins beside it. W-212: "Each bus word shall also show the place of its SEND and the sender"
unfoldable pub bus_of : List Numbers → List Origin → List BusWord
bus_of [] origins = []
bus_of (n ∷ l) [] = []
bus_of (n ∷ l) (o ∷ origins) =
    let others = bus_of l origins in
    cond (eqb n.code 4) (record { mail = record { channel = n.a; word = n.word }; origin = o } ∷ others) others

-- channel and word of each alone, which is all that was compared before W-212
abbrev pub without_origins : List BusWord → List Mail
without_origins l = map (λ (x : BusWord). x.mail) l

-- "the feeds of our list that answered 4", in order, each as its record's channel and word
unfoldable pub fed_of : List Command → List Numbers → List Mail
fed_of [] l = []
fed_of (r ∷ rs) [] = []
fed_of (r ∷ rs) (n ∷ l) =
    let others = fed_of rs l in
    cond (eqb r.move 4 && eqb n.code 4) (record { channel = r.a; word = r.word } ∷ others) others

-- places, registers and inboxes of our processes
abbrev pub machines_of : Cabinet → List Machine
machines_of c = map (λ (x : Process). x.machine) c.processes

-- W-214: "Words carried by a record taken back don't count in the bus order, and feeds taken back don't count as fed": both are those of the
-- records that stand.
abbrev pub bus_order : List Command → List Numbers → List Origin → List BusWord
bus_order commands answers origins = bus_of (answers_of (standing commands answers origins)) (origins_of (standing commands answers origins))

-- channel and word of each alone
abbrev pub word_order : List Command → List Numbers → List Origin → List Mail
word_order commands answers origins = trace_of (answers_of (standing commands answers origins))

abbrev pub fed_in : List Command → List Numbers → List Origin → List Mail
fed_in commands answers origins = fed_of (commands_of (standing commands answers origins)) (answers_of (standing commands answers origins))

-- ---- of a list of commands

-- our run of a list: the answers' numbers, and the cabinet after the last command
abbrev pub shown : Table → List Command → List Numbers
shown t commands = map numbers (play_from t (opened t) commands).answers

-- and where the words on the bus come from
abbrev pub shown_from : Table → List Command → List Origin
shown_from t commands = map origin_of (play_from t (opened t) commands).answers

-- the records that stand after them
abbrev pub standing_after : Table → List Command → List Noted
standing_after t commands = standing commands (shown t commands) (shown_from t commands)

abbrev pub session_after : Table → List Command → Session
session_after t commands = (play_from t (opened t) commands).session

abbrev pub ended : Table → List Command → Cabinet
ended t commands = (session_after t commands).cabinet

-- "Demand 3 speaks of that list as a whole, in one theorem, and not of each move by itself."
abbrev pub ListTransparent : Table → List Command → Type 0
ListTransparent t commands =
    Transparent t (fed_in commands (shown t commands) (shown_from t commands)) (bus_order commands (shown t commands) (shown_from t commands))
    (quiescent t (ended t commands)) (machines_of (ended t commands))

-- the same of the cabinet's own moves, which take nothing back
abbrev pub answered : Table → List Command → List Numbers
answered t commands = map numbers (run_from t (started t) commands).answers

-- and where the words on the bus come from
abbrev pub originated : Table → List Command → List Origin
originated t commands = map origin_of (run_from t (started t) commands).answers

abbrev pub finished : Table → List Command → Cabinet
finished t commands = (run_from t (started t) commands).cabinet

-- ---- the back key (W-214)

-- the answer to one record more
abbrev pub answer_next : Table → List Command → Command → Answer
answer_next t commands r = (stride t (session_after t commands) r).answer

-- A list of commands, and a move 8 behind it that is answered 7.
pub record Undoes (t : Table) (commands : List Command) : Type 0 where
  -- "the last record not yet taken back": what stands is what stood before it was given, and it
  pub last : Command
  pub front : List Command
  pub behind : List Command
  pub is-given : commands ≡ front ++ (last ∷ behind)
  pub is_last : standing_after t commands ≡ standing_after t front ++ (note_of last (answer_next t front last) ∷ [])
  -- "A move 8 is itself never taken back."
  pub no_undo : is_undo last ≡ false
  -- "The cabinet is then exactly as before that record"
  pub as_before : ended t (commands ++ (undo_key ∷ [])) ≡ ended t front
  -- "The same record given next, with nothing between, gets the same answer."
  pub same_answer : answer_next t (commands ++ (undo_key ∷ [])) last ≡ answer_next t front last
  -- it doesn't stand any more
  pub stands_now : standing_after t (commands ++ (undo_key ∷ [])) ≡ standing_after t front
