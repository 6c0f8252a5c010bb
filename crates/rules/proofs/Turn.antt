-- One command, then any list of them, followed by the reference machine. The room for words that are about to arrive comes with it.
use mathlib.Core.Path.{◌≡◌, refl, sym, subst₂}
use mathlib.Core.Bool.{Bool, true, false, cond, ◌&&◌}
use mathlib.Core.List.{List, [], ◌∷◌, ◌++◌, map}
use Prim.Native.Nat.{ℕ, ◌<◌}
use lib.Dec.{eqb}
use lib.ListN.{length}
use Rattle.rules.specs.Table.{Table}
use Rattle.rules.specs.Machine.{Mail, Origin, BusWord}
use Rattle.rules.specs.Reference.{Reference}
use Rattle.rules.specs.Cabinet.{Cabinet, process_at, protected}
use Rattle.rules.specs.Moves.{Command, Move, transmit_move, move_of, Refusal, Answer, sync_kept, sync_lost, dropped_from, refused}
use Rattle.rules.specs.Moves.{Numbers, numbers, origin_of, turn, run_from}
use Rattle.rules.specs.Judge.{Accepted}
use Rattle.rules.specs.Rebackup.{bus_words}
use Rattle.rules.specs.Transparent.{trace_of, bus_of, fed_of}
use Rattle.rules.proofs.Invariant.{Invariant, Roomy}
use Rattle.rules.proofs.Decoded.{is_feed, move_of_feed, refusal_number-not_4}
use Rattle.rules.proofs.Guards.{fed_mail, Done, yields_turn}
use Rattle.rules.proofs.Follow.{Follows, stay, follows_then, follow_computing, follow_taking, follow_suppressing, follow_sending, follow_issue, follow_rebackup}
use Rattle.rules.proofs.Transmission.{follow_transmit, follow_sync, follow_transfer, follow_inject}
use Rattle.rules.proofs.CrashKeeps.{follow_crash, follow_rejoin}
use Rattle.rules.proofs.Room.{Room}
use Rattle.rules.proofs.Sizes.{roomy}
use Rattle.rules.proofs.KeepRoom.{turn-room}

-- ---- one command

-- the word that an answer puts on the bus, with its origin
abbrev pub on_bus : Answer → List BusWord
on_bus a = bus_of (numbers a ∷ []) (origin_of a ∷ [])

-- the feed that a command of a move is, if it was accepted
abbrev fed_by : Move → Command → Answer → List Mail
fed_by m r a = cond (is_feed m && eqb (numbers a).code 4) (record { channel = r.a; word = r.word } ∷ []) []

pub refused-trace : (why : Refusal) (a : ℕ) → bus_words (refused why a) ≡ []
unfolding trace_of numbers
refused-trace why a = rw (refusal_number-not_4 why)

pub refused_bus : (why : Refusal) (a : ℕ) → on_bus (refused why a) ≡ []
unfolding bus_of numbers
refused_bus why a = rw (refusal_number-not_4 why)

refused_feed : (m : Move) (r : Command) (why : Refusal) → fed_by m r (refused why r.a) ≡ []
unfolding numbers
refused_feed m r why = rw (refusal_number-not_4 why) (go (is_feed m))
  where
    go : (b : Bool) → cond {A = List Mail} (b && false) (record { channel = r.a; word = r.word } ∷ []) [] ≡ []
    go true = refl
    go false = refl

-- what a command does is followed by actions with its trace, if it carries a word, and its feed, if it is one
module _ {t : Table} (ok : Accepted t) {c : Cabinet} {s : Reference} (inv : Invariant t c s) (room : Roomy t c) (r : Command) where
  abbrev Followed : Move → Cabinet → Answer → Type 0
  Followed m d a = Follows t d s (on_bus a) (fed_by m r a)

  -- a carried sync has no word on the bus, whether a backup kept it or none is left
  landed_silent : (p dropped : ℕ) (y : Bool) {d : Cabinet} → Follows t d s [] [] → Followed transmit_move d (cond y (sync_kept p dropped) (sync_lost p))
  unfolding numbers origin_of bus_of
  landed_silent p dropped true f = f
  landed_silent p dropped false f = f

  there : r.a < length t.processes → r.a < length c.processes
  there h = rw inv.all_processes h

  done_follows : Done t c r Followed
  unfolding numbers origin_of bus_of
  done_follows = record {
    computes = λ h m e long. follow_computing ok inv r.a (there h) m e long;
    takes = λ h m mail e limit. follow_taking ok inv r.a (there h) m mail e limit;
    suppresses = λ h m mail e n z. follow_suppressing ok inv r.a (there h) m mail e n z;
    sends = λ h m mail e z limit _ _. follow_sending ok inv r.a (there h) m mail e z limit;
    issues = λ h safe none-waits _. follow_issue ok inv r.a (there h) safe none-waits;
    transmits = λ _ _ mail pc rest e. follow_transmit ok inv room r.a mail pc rest e;
    syncs = λ _ _ p k rest e. landed_silent p (dropped_from k (process_at c p).standby) (protected (process_at c p)) (follow_sync ok inv r.a p k rest e);
    completes = λ _ _ p rest e. follow_transfer ok inv r.a p rest e;
    injects = λ h outside free. follow_inject ok inv room (fed_mail r) h outside free;
    crashes = λ _ _ safe. follow_crash ok inv r.a safe;
    rejoins = λ h fallen. follow_rejoin inv r.a h fallen;
    rebackups = λ h bare alive settled _ none-waits _. follow_rebackup ok inv r.a (there h) (room.for_copies r.a (there h)) bare alive settled none-waits;
  }

  pub turn_follows : Follows t (turn t c r).cabinet s (on_bus (turn t c r).answer) (fed_by (move_of r.move) r (turn t c r).answer)
  turn_follows =
      yields_turn t c r Followed done_follows
      (λ m why. subst₂ (Follows t c s) (sym (refused_bus why r.a)) (sym (refused_feed m r why)) (stay inv))

-- ---- any list of commands

-- one more answer in front
cons_by : {A : Type 0} (b : Bool) (x : A) (l : List A) → cond b (x ∷ []) [] ++ l ≡ cond b (x ∷ l) l
cons_by true x l = refl
cons_by false x l = refl

pub trace_cons : (n : Numbers) (l : List Numbers) → trace_of (n ∷ []) ++ trace_of l ≡ trace_of (n ∷ l)
unfolding trace_of
trace_cons n l = cons_by (eqb n.code 4) (record { channel = n.a; word = n.word }) (trace_of l)

pub bus_cons : (n : Numbers) (o : Origin) (l : List Numbers) (origins : List Origin)
    → bus_of (n ∷ []) (o ∷ []) ++ bus_of l origins ≡ bus_of (n ∷ l) (o ∷ origins)
unfolding bus_of
bus_cons n o l origins =
    cons_by (eqb n.code 4) (record { mail = record { channel = n.a; word = n.word }; origin = o }) (bus_of l origins)

fed_cons : (r : Command) (a : Answer) (rs : List Command) (l : List Numbers) → fed_by (move_of r.move) r a ++ fed_of rs l ≡ fed_of (r ∷ rs) (numbers a ∷ l)
unfolding fed_of
fed_cons r a rs l =
    rw (move_of_feed r.move)
    (cons_by (eqb r.move 4 && eqb (numbers a).code 4) (record { channel = r.a; word = r.word }) (fed_of rs l))

-- the run of a list from cabinet c, followed from s
pub record FollowsRun (t : Table) (c : Cabinet) (s : Reference) (commands : List Command) : Type 0 where
  pub follows : Follows t (run_from t c commands).cabinet s
      (bus_of (map numbers (run_from t c commands).answers) (map origin_of (run_from t c commands).answers))
      (fed_of commands (map numbers (run_from t c commands).answers))
  pub room : Room t [] (run_from t c commands).cabinet

pub run_follows : {t : Table} → Accepted t → (c : Cabinet) (s : Reference) → Invariant t c s → Room t [] c → (commands : List Command) → FollowsRun t c s commands
unfolding run_from bus_of fed_of
run_follows ok c s inv rm [] = record { follows = stay inv; room = rm }
run_follows {t} ok c s inv rm (r ∷ rs) =
    let f = turn_follows ok inv (roomy t ok c s inv rm) r in
    let g = run_follows ok (turn t c r).cabinet f.end f.invariant (turn-room t ok c s inv rm r) rs in
    let a : Answer = (turn t c r).answer in
    let l : List Numbers = map numbers (run_from t (turn t c r).cabinet rs).answers in
    let origins : List Origin = map origin_of (run_from t (turn t c r).cabinet rs).answers in
    record {
      follows =
          subst₂ (Follows t (run_from t c (r ∷ rs)).cabinet s) (bus_cons (numbers a) (origin_of a) l origins) (fed_cons r a rs l)
          (follows_then f g.follows);
      room = g.room;
    }
