-- A standstill by back-pressure lasts until a feed or a crash: whatever else is done, no process does an instruction. So the three cases of
-- `Progress` exclude each other. And it is back-pressure's alone: the plain cabinet goes on.
use mathlib.Core.Path.{◌≡◌, refl, ap, sym, ◌∙◌, subst}
use mathlib.Core.Bool.{Bool, true, false, not, ◌&&◌}
use mathlib.Core.List.{List, [], ◌∷◌, ◌++◌, map, append-nil}
use Prim.Native.Nat.{ℕ, zero, suc, ◌<◌}
use native.Mathlib.Omega.{arith}
use lib.Dec.{eqb, leb}
use lib.ListN.{length, get_or, set}
use lib.Seq.{map-set_same}
use borrow.Author.Tests.{eq-eqb, le-ltb, not-true}
use Rattle.facts.specs.Tests.{no_way, and_left, and_right}
use Rattle.rules.specs.Table.{Table, environment, channel_at, code_of}
use Rattle.rules.specs.Machine.{Mail, sent_from, Machine, Act, internal, took, sent, moved, local_step}
use Rattle.rules.specs.Reference.{reference_start, posted, with_machine, injections}
use Rattle.rules.specs.Cabinet.{occupancy_most, Process, Item, message, checkpoint, transfer, Cabinet, nobody, process_at, outbox_at}
use Rattle.rules.specs.Cabinet.{unread_on, in_flight, occupancy, full, idle, quiescent}
use Rattle.rules.specs.Moves.{Command, refused, numbers, refusal_number, Refusal, outbox_empty, Result, refuse, guard, issued, snapshot}
use Rattle.rules.specs.Moves.{keeps, transmit_oldest, transmit, end_transfer, begin_transfer, step_move, move_of, perform, judged, settle, turn}
use Rattle.rules.specs.Moves.{run_from}
use Rattle.rules.specs.Judge.{Accepted}
use Rattle.rules.specs.Transparent.{finished}
use Rattle.progress.specs.Progress.{step_of, sync_of, carry_of, is_done, Next, carries, steps, syncs, Pressed, Stands, waits, pressed}
use Rattle.progress.specs.Progress.{Standstill, is_outside, all_inside, StandsAs, ListGoesOn}
use Rattle.rules.proofs.Decoded.{refusal_number-listed}
use Rattle.rules.proofs.Ahead.{UpToEnd, up_to_end}
use Rattle.rules.proofs.Good.{Link, trailing, coming, Good, backed, alone, late}
use Rattle.rules.proofs.Links.{coming_some}
use Rattle.rules.proofs.GoodMoves.{alone_of_late, good_quiet}
use Rattle.rules.proofs.Invariant.{Invariant, mine, machine_at, in_table}
use Rattle.rules.proofs.References.{run_append, injections_append, act-sent}
use Rattle.rules.proofs.Counting.{weight, flight_join, flight_leave, flight_lost}
use Rattle.rules.proofs.Guards.{Done, yields_turn}
use Rattle.rules.proofs.Start.{reached}
use Rattle.rules.proofs.Quiet.{stuck, each_caught_up, same-machines, all_idle, all_empty_lem}
use Rattle.progress.proofs.Progress.{no_flight}

map_at : {B : Type 0} (f : Process → B) (l r : List Process) → map f l ≡ map f r → (p : ℕ) → f (get_or l p nobody) ≡ f (get_or r p nobody)
map_at f [] [] e p = refl
map_at f [] (y ∷ r) e p = absurd (no_way (cc))
map_at f (x ∷ l) [] e p = absurd (no_way (cc))
map_at f (x ∷ l) (y ∷ r) e zero = cc
map_at f (x ∷ l) (y ∷ r) e (suc p) = map_at f l r (cc) p

refused-not-done : (why : Refusal) (a : ℕ) → is_done (refused why a) ≡ false
unfolding numbers
refused-not-done why a = le-ltb (refusal_number why) 32 (refusal_number-listed why).low

data Refuses : Result → Type 0 where
  refuses : (why : Refusal) → Refuses (refuse why)

guard_refuses : (test : Bool) (why : Refusal) {rest : Result} → Refuses rest → Refuses (guard test why rest)
unfolding guard
guard_refuses true why h = refuses why
guard_refuses false why h = h

not_done : (c : Cabinet) (r : Command) {result : Result} → Refuses result → is_done (settle c r result).answer ≡ false
not_done c r (refuses why) = refused-not-done why r.a

abbrev machine_of : Process → Machine
machine_of x = x.machine

abbrev suppress_of : Process → ℕ
suppress_of x = x.suppress

-- in c no queue has an entry and each process stands
module _ {t : Table} {c : Cabinet} (empty : (b : ℕ) → outbox_at c b ≡ []) (each : (p : ℕ) → p < length t.processes → Stands t c p) where
  -- d has the same processes, and no word in a queue
  record Still (d : Cabinet) : Type 0 where
    pub machines : map machine_of d.processes ≡ map machine_of c.processes
    pub suppresses : map suppress_of d.processes ≡ map suppress_of c.processes
    pub no_words : (k : ℕ) → in_flight k d.outboxes ≡ 0

  still_here : Still c
  still_here = record { machines = refl; suppresses = refl; no_words = λ k. no_flight k c.outboxes empty }

  module _ {d : Cabinet} (h : Still d) where
    machine-is : (p : ℕ) → (process_at d p).machine ≡ (process_at c p).machine
    machine-is p = map_at machine_of d.processes c.processes h.machines p

    held_still : (k : ℕ) → full t d k ≡ full t c k
    unfolding full occupancy
    held_still k =
        let a = ap (λ (m : Machine). unread_on k m.mailbox) (machine-is (channel_at t k).reader) in
        let b = h.no_words k in
        let e = still_here.no_words k in
        let same : occupancy t d k ≡ occupancy t c k = omega arith in
        ap (λ (n : ℕ). not (eqb (channel_at t k).reader environment) && leb occupancy_most n) same

    -- a process could do an instruction only at a SEND, which isn't held back and whose channel is held
    record AtSend (p : ℕ) (k : Act) : Type 0 where
      pub word : Mail
      pub is : k ≡ sent word
      pub free : (process_at d p).suppress ≡ 0
      pub held : full t d word.channel ≡ true

    at_send : (p : ℕ) → p < length t.processes → (m : Machine) (k : Act) → local_step (code_of t p) (process_at d p).machine ≡ moved m k → AtSend p k
    at_send p l m k e = go (each p l)
      where
        there : local_step (code_of t p) (process_at c p).machine ≡ moved m k
        there = ap (local_step (code_of t p)) (sym (machine-is p)) ∙ e

        go : Stands t c p → AtSend p k
        go (waits i) = absurd (no_way (let a = ap idle there in cc))
        go (pressed v) = record {
          word = v.word;
          is = (let a = v.sends in let b = there in cc);
          free = map_at suppress_of d.processes c.processes h.suppresses p ∙ v.not-held_back;
          held = held_still v.word.channel ∙ v.held;
        }

    -- a process gets another record or owes less, and no word joins a queue
    changed : (p : ℕ) (y : Process) (qs : List (List Item)) → y.machine ≡ (process_at d p).machine → y.suppress ≡ (process_at d p).suppress
        → ((k : ℕ) → in_flight k qs ≡ 0) → Still (record { processes = set d.processes p y; outboxes = qs; dead = d.dead })
    changed p y qs a b w = record {
      machines = map-set_same machine_of d.processes p y nobody a ∙ h.machines;
      suppresses = map-set_same suppress_of d.processes p y nobody b ∙ h.suppresses;
      no_words = w;
    }

    no_word_leaves : (b : ℕ) (mail : Mail) (pc : ℕ) (rest : List Item) → outbox_at d b ≡ message mail pc ∷ rest → ⊥
    no_word_leaves b mail pc rest e =
        let a = flight_leave mail.channel d.outboxes b (message mail pc) rest e in
        let n = h.no_words mail.channel in
        let i : weight mail.channel (message mail pc) ≡ 1 = rw (eq-eqb mail.channel mail.channel refl) in
        omega arith

    done_still : (r : Command) → Done t d r (λ m e _. is_outside m ≡ false → Still e)
    unfolding issued keeps end_transfer begin_transfer
    done_still r = record {
      computes = λ l m e _ _. absurd (no_way (let v = (at_send r.a l m internal e).is in cc));
      takes = λ l m mail e _ _. absurd (no_way (let v = (at_send r.a l m (took mail) e).is in cc));
      suppresses = λ l m mail e n z _. absurd (let v = (at_send r.a l m (sent mail) e).free in omega arith);
      sends = λ l m mail e _ _ _ free _. absurd (no_way (let v = at_send r.a l m (sent mail) e in let i = v.is in let f = v.held in cc));
      issues = λ _ _ _ _ _. changed r.a _ _ refl refl
          (λ k. let j = flight_join k d.outboxes (process_at d r.a).board (checkpoint r.a (snapshot (process_at d r.a))) in let n = h.no_words k in omega arith);
      transmits = λ _ _ mail pc rest e _. absurd (no_word_leaves r.a mail pc rest e);
      syncs = λ _ _ p s rest e _. changed p _ _ refl refl
          (λ k. let j = flight_leave k d.outboxes r.a (checkpoint p s) rest e in let n = h.no_words k in omega arith);
      completes = λ _ _ p rest e _. changed p _ _ refl refl
          (λ k. let j = flight_leave k d.outboxes r.a (transfer p) rest e in let n = h.no_words k in omega arith);
      injects = λ _ _ _ out. absurd (no_way (cc));
      crashes = λ _ _ _ out. absurd (no_way (cc));
      rejoins = λ _ _ _. record {
        machines = h.machines;
        suppresses = h.suppresses;
        no_words = λ k. let j = flight_lost k d.outboxes r.a in let n = h.no_words k in omega arith;
      };
      rebackups = λ _ _ _ _ _ _ _ _. changed r.a _ _ refl refl
          (λ k. let j = flight_join k d.outboxes (process_at d r.a).board (transfer r.a) in let n = h.no_words k in omega arith);
    }

    turn_still : (r : Command) → is_outside (move_of r.move) ≡ false → Still (turn t d r).cabinet
    turn_still r inside = yields_turn t d r (λ m e _. is_outside m ≡ false → Still e) (done_still r) (λ _ _ _. h) inside

    -- no step is accepted, of whatever process
    step-refused : (p : ℕ) → is_done (turn t d (step_of p)).answer ≡ false
    step-refused p = yields_turn t d (step_of p) (λ m _ a. m ≡ step_move → is_done a ≡ false) record {
      computes = λ l m e _ _. absurd (no_way (let v = (at_send p l m internal e).is in cc));
      takes = λ l m mail e _ _. absurd (no_way (let v = (at_send p l m (took mail) e).is in cc));
      suppresses = λ l m mail e n z _. absurd (let v = (at_send p l m (sent mail) e).free in omega arith);
      sends = λ l m mail e _ _ _ free _. absurd (no_way (let v = at_send p l m (sent mail) e in let i = v.is in let f = v.held in cc));
      issues = λ _ _ _ _ e. absurd (no_way (cc));
      transmits = λ _ _ _ _ _ _ e. absurd (no_way (cc));
      syncs = λ _ _ _ _ _ _ e. absurd (no_way (cc));
      completes = λ _ _ _ _ _ e. absurd (no_way (cc));
      injects = λ _ _ _ e. absurd (no_way (cc));
      crashes = λ _ _ _ e. absurd (no_way (cc));
      rejoins = λ _ _ e. absurd (no_way (cc));
      rebackups = λ _ _ _ _ _ _ _ e. absurd (no_way (cc));
    } (λ _ why _. refused-not-done why p) refl

  run_still : (commands : List Command) → all_inside commands ≡ true → {d : Cabinet} → Still d → Still (run_from t d commands).cabinet
  unfolding run_from
  run_still [] inside h = h
  run_still (r ∷ rs) inside {d} h =
      run_still rs (and_right (not (is_outside (move_of r.move))) _ inside)
      (turn_still h r (not-true _ (and_left (not (is_outside (move_of r.move))) (all_inside rs) inside)))

  stands_as : (commands : List Command) → all_inside commands ≡ true → StandsAs t c (run_from t c commands).cabinet
  stands_as commands inside = let h = run_still commands inside still_here in record { same = h.machines; no_step = step-refused h }

  -- nor is a carry in c
  carry_refused : (b : ℕ) → is_done (turn t c (carry_of b)).answer ≡ false
  unfolding turn judged perform transmit transmit_oldest
  carry_refused b = not_done c (carry_of b) (guard_refuses _ _ (guard_refuses _ _ (guard_refuses _ _ (rw (empty b) (refuses outbox_empty)))))

  no_next : Next t c → ⊥
  unfolding run_from
  no_next (carries b done) = no_way (let a = carry_refused b in let d = and_left (is_done (turn t c (carry_of b)).answer) true done in cc)
  no_next (steps p done) = no_way (let a = step-refused still_here p in let b = and_left (is_done (turn t c (step_of p)).answer) true done in cc)
  no_next (syncs p owes done) =
      no_way (let a = step-refused (turn_still still_here (sync_of p) refl) p in
      let b = and_left (is_done (turn t (turn t c (sync_of p)).cabinet (step_of p)).answer) true (and_right (is_done (turn t c (sync_of p)).answer) _ done) in cc)

module _ {t : Table} {c : Cabinet} (h : Standstill t c) where
  -- whatever is done but feeds and crashes
  pub lasts : (commands : List Command) → all_inside commands ≡ true → StandsAs t c (run_from t c commands).cabinet
  lasts commands inside = stands_as h.empty h.each commands inside

  pub nothing-next : Next t c → ⊥
  nothing-next n = no_next h.empty h.each n

-- ---- beside the plain cabinet

-- no item waits and nothing is suppressed: silent steps take the reference machine to the running one
good_level : {t : Table} {p : ℕ} {x : Process} {m : Machine} → Good t p [] x m → x.suppress ≡ 0 → UpToEnd (code_of t p) m x.machine
good_level {t} {p} {x} {m} (backed h) z = go h.link
  where
    go : Link t p h.standby [] m h.since x.machine → UpToEnd (code_of t p) m x.machine
    go (trailing l) = up_to_end l.ahead
    go (coming l) = absurd (coming_some l)
good_level (alone h) z = up_to_end h.ahead
good_level (late h) z = up_to_end (alone_of_late z h).ahead

module _ {t : Table} (ok : Accepted t) (commands : List Command) where
  -- nothing can be done at a quiet end either
  pub quiet-ends : quiescent t (finished t commands) ≡ true → Next t (finished t commands) → ⊥
  quiet-ends q n =
      let inv = (reached t ok commands).follows.invariant in
      no_next (all_empty_lem inv q) (λ p l. waits (all_idle inv q p (rw inv.all_processes l))) n

  module _ (h : Standstill t (finished t commands)) where
    pub not-quiet : quiescent t (finished t commands) ≡ true → ⊥
    not-quiet q =
        let inv = (reached t ok commands).follows.invariant in
        no_way (let a = all_idle inv q h.process (rw inv.all_processes h.there) in let b = ap idle h.before.sends in cc)

    catch_up : (p : ℕ) → p < length (finished t commands).processes
        → UpToEnd (code_of t p) (machine_at (reached t ok commands).follows.end p) (process_at (finished t commands) p).machine
    catch_up p hp = go (h.each p (in_table inv hp))
      where
        inv : Invariant t (finished t commands) (reached t ok commands).follows.end
        inv = (reached t ok commands).follows.invariant

        good : Good t p [] (process_at (finished t commands) p) (machine_at (reached t ok commands).follows.end p)
        good = subst (λ (l : List Item). Good t p (mine t p l) (process_at (finished t commands) p) (machine_at (reached t ok commands).follows.end p))
            (h.empty (process_at (finished t commands) p).board) (inv.good p hp)

        go : Stands t (finished t commands) p
            → UpToEnd (code_of t p) (machine_at (reached t ok commands).follows.end p) (process_at (finished t commands) p).machine
        go (waits i) = good_quiet good (stuck (code_of t p) (process_at (finished t commands) p).machine i)
        go (pressed v) = good_level good v.not-held_back

    -- each process that stands before a held channel could go on in the plain cabinet
    pub plain_goes_on : (p : ℕ) → p < length t.processes → Pressed t (finished t commands) p → ListGoesOn t commands p
    plain_goes_on p l v =
        let f = (reached t ok commands).follows in
        let r = each_caught_up f.invariant catch_up in
        let hp : p < length (finished t commands).processes = rw f.invariant.all_processes l in
        record {
          actions = f.actions ++ r.actions;
          end = r.end;
          ran = run_append t (reference_start t) f.actions r.actions f.end f.ran ∙ r.ran;
          injected = injections_append f.actions r.actions
              ∙ ap (λ (q : List Mail). injections f.actions ++ q) r.none-injected
              ∙ append-nil (injections f.actions)
              ∙ f.injected;
          same-trace = r.same-trace ∙ f.traced ∙ (unfold reference_start in refl);
          same_end = same-machines f.invariant r;
          further = posted t (sent_from p (machine_at r.end p).pc v.word) (with_machine p v.after r.end);
          goes_on = act-sent t r.end p (omega (arith, r.same_number, f.invariant.same_number)) (record { is = rw (r.caught_up p hp) v.sends });
        }
