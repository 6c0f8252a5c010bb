-- W-212: what tells the origin of an answer, of every command in every cabinet: its move, its code and, of a carry, the oldest entry before
-- it. This is what code that writes the origins rests on.
use mathlib.Core.Path.{◌≡◌, refl}
use mathlib.Core.Bool.{Bool, true, false, cond}
use mathlib.Core.List.{[]}
use Prim.Native.Nat.{ℕ}
use borrow.Author.Tests.{eq-eqb}
use Rattle.facts.specs.Tests.{no_way}
use Rattle.rules.specs.Table.{Table}
use Rattle.rules.specs.Cabinet.{Cabinet, process_at, outbox_at, protected}
use Rattle.rules.specs.Moves.{Command, Move, step_move, issue_move, transmit_move, inject_move, crash_move, rejoin_move, rebackup_move, unknown}
use Rattle.rules.specs.Moves.{move_of, Refusal, Answer, sync_kept, sync_lost, dropped_from, refused, numbers, origin_of, turn}
use Rattle.rules.specs.Origins.{told_by}
use Rattle.rules.proofs.Decoded.{refusal_number-not_4}
use Rattle.rules.proofs.Guards.{Done, yields_turn}

module _ (t : Table) (c : Cabinet) (r : Command) where
  abbrev Told : Move → Cabinet → Answer → Type 0
  Told m d a = origin_of a ≡ told_by t (outbox_at c r.a) (numbers a).code m

  landed-told : (p dropped : ℕ) (b : Bool) (d : Cabinet) → Told transmit_move d (cond b (sync_kept p dropped) (sync_lost p))
  unfolding origin_of numbers
  landed-told p dropped true d = refl
  landed-told p dropped false d = refl

  each-told : Done t c r Told
  unfolding origin_of numbers
  each-told = record {
    computes = λ _ _ _ _. refl;
    takes = λ _ _ _ _ _. refl;
    suppresses = λ _ _ _ _ _ _. refl;
    sends = λ _ _ _ _ _ _ _ _. refl;
    issues = λ _ _ _ _. refl;
    transmits = λ _ _ mail pc rest e. rw e;
    syncs = λ _ _ p k rest _. landed-told p (dropped_from k (process_at c p).standby) (protected (process_at c p)) c;
    completes = λ _ _ _ _ _. refl;
    injects = λ _ _ _. refl;
    crashes = λ _ _ _. refl;
    rejoins = λ _ _. refl;
    rebackups = λ _ _ _ _ _ _ _. refl;
  }

  refused-told : (m : Move) (why : Refusal) → Told m c (refused why r.a)
  unfolding origin_of numbers
  refused-told step_move why = refl
  refused-told issue_move why = refl
  refused-told transmit_move why = rw (refusal_number-not_4 why)
  refused-told inject_move why = rw (refusal_number-not_4 why)
  refused-told crash_move why = refl
  refused-told rejoin_move why = refl
  refused-told rebackup_move why = refl
  refused-told unknown why = refl

  pub origin-told : origin_of (turn t c r).answer ≡ told_by t (outbox_at c r.a) (numbers (turn t c r).answer).code (move_of r.move)
  origin-told = yields_turn t c r Told each-told refused-told

  -- ---- a word that is carried was waiting

  abbrev Waited : Move → Cabinet → Answer → Type 0
  Waited m d a = m ≡ transmit_move → (numbers a).code ≡ 4 → outbox_at c r.a ≡ [] → ⊥

  each_waited : Done t c r Waited
  each_waited = record {
    computes = λ _ _ _ _ m _ _. no_way (cc);
    takes = λ _ _ _ _ _ m _ _. no_way (cc);
    suppresses = λ _ _ _ _ _ _ m _ _. no_way (cc);
    sends = λ _ _ _ _ _ _ _ _ m _ _. no_way (cc);
    issues = λ _ _ _ _ m _ _. no_way (cc);
    transmits = λ _ _ mail pc rest e _ _ none. no_way (cc);
    syncs = λ _ _ p k rest e _ _ none. no_way (cc);
    completes = λ _ _ p rest e _ _ none. no_way (cc);
    injects = λ _ _ _ m _ _. no_way (cc);
    crashes = λ _ _ _ m _ _. no_way (cc);
    rejoins = λ _ _ m _ _. no_way (cc);
    rebackups = λ _ _ _ _ _ _ _ m _ _. no_way (cc);
  }

  refused_waited : (m : Move) (why : Refusal) → Waited m c (refused why r.a)
  unfolding numbers
  refused_waited m why _ e _ = no_way (let a = eq-eqb _ _ e in let b = refusal_number-not_4 why in cc)

  pub carried_waited : move_of r.move ≡ transmit_move → (numbers (turn t c r).answer).code ≡ 4 → outbox_at c r.a ≡ [] → ⊥
  carried_waited = yields_turn t c r Waited each_waited refused_waited
