-- W-212: what an origin says. The word was fed, or at that place of that process stands a SEND to its channel: of every plain run, and so of
-- every word that an accepted run shows, also those of records that were taken back (W-214).
use mathlib.Core.Path.{◌≡◌, refl, ap, sym, ◌∙◌, subst}
use mathlib.Core.Bool.{Bool, true, false, cond}
use mathlib.Core.Option.{Option, none, some}
use mathlib.Core.List.{List, [], ◌∷◌, ◌++◌, map, append_assoc, reverse}
use Prim.Native.Nat.{ℕ}
use lib.Dec.{eqb, ltb}
use lib.ListN.{length, get_or}
use borrow.Author.Tests.{eqb-true}
use Rattle.facts.specs.Tests.{no_way}
use Rattle.rules.specs.Table.{Table, Instruction, SET, ADD, TAKE, FIRST, SEND, JUMP, NONE, environment, channel_at, code_of}
use Rattle.rules.specs.Machine.{Mail, BusWord, sent_from, from_outside, Machine, booted, internal, took, sent}
use Rattle.rules.specs.Machine.{Outcome, halted, no_mail, moved, Pull, nothing, found, pull, bit, take1, first1, execute, local_step}
use Rattle.rules.specs.Reference.{Reference, Action, inject, step, posted, with_machine, stepped, act, and_then}
use Rattle.rules.specs.Reference.{reference_start, reference_run}
use Rattle.rules.specs.Cabinet.{Cabinet, started}
use Rattle.rules.specs.Moves.{Command, stray_word, none_kept, Answer, refused, numbers, origin_of, turn, run_from}
use Rattle.rules.specs.Undo.{Session, opened, is_undo, is_bare, undone, undo, stride, play_from, Noted, stands_after, commands_of}
use Rattle.rules.specs.Judge.{Accepted}
use Rattle.rules.specs.Origins.{SendsAt, was_fed, was_sent, AllGenuine, none-shown, one_shown}
use Rattle.rules.specs.Format.{decode_table}
use Rattle.rules.specs.Schedule.{decode_schedule}
use Rattle.rules.specs.Run.{Buffers, run, accepted}
use Rattle.rules.specs.Transparent.{bus_of}
use Rattle.rules.specs.Transparency.{answers_in, origins_in}
use Rattle.rules.proofs.Steps.{Steps, executes}
use Rattle.rules.proofs.Turn.{on_bus, refused_bus, bus_cons}
use Rattle.rules.proofs.Undo.{one_answer-more, forward-answers}
use Rattle.rules.proofs.Standing.{Stands, note, stands-more, stands-none}
use Rattle.rules.proofs.Transparency.{moves_transparent}
use Rattle.rules.proofs.Valid.{decoded_accepted}
use Rattle.rules.proofs.AcceptedRun.{table-valid, answers_read, origins_read}

both_genuine : {t : Table} {l m : List BusWord} → AllGenuine t l → AllGenuine t m → AllGenuine t (l ++ m)
both_genuine none-shown h = h
both_genuine (one_shown g r) h = one_shown g (both_genuine r h)

-- ---- an instruction that sends is a SEND

taken-sends-not : (a : ℕ) (m n : Machine) (x : Mail) (p : Pull) → take1 a m p ≡ moved n (sent x) → ⊥
taken-sends-not a m n x nothing e = no_way (cc)
taken-sends-not a m n x (found y ys) e = no_way (cc)

first-sends-not : (a : ℕ) (m n : Machine) (x : Mail) (p : Pull) → first1 a m p ≡ moved n (sent x) → ⊥
first-sends-not a m n x nothing e = no_way (cc)
first-sends-not a m n x (found y ys) e = no_way (cc)

is-send : (i : Instruction) (m n : Machine) (x : Mail) → execute i m ≡ moved n (sent x) → (a : ℕ) × (i ≡ SEND a x.channel)
unfolding execute
is-send (SET a v) m n x e = absurd (no_way (cc))
is-send (ADD a b) m n x e = absurd (no_way (cc))
is-send (TAKE a k) m n x e = absurd (taken-sends-not a m n x (pull (eqb k) m.mailbox) e)
is-send (FIRST a k) m n x e = absurd (first-sends-not a m n x (pull (bit k) m.mailbox) e)
is-send (SEND a k) m n x e =
    let same : record { channel = k; word = get_or m.registers a 0 } ≡ x = cc in
    (a, ap (λ (y : Mail). SEND a y.channel) same)
is-send (JUMP a k) m n x e = absurd (no_way (cc))
is-send NONE m n x e = absurd (no_way (cc))

sends_at : (t : Table) (p : ℕ) {m n : Machine} {x : Mail} → Steps (code_of t p) m (sent x) n → SendsAt t p m.pc x.channel
sends_at t p {m} {n} {x} e =
    let v = executes e in
    let w = is-send (get_or (code_of t p) m.pc (SET 0 0)) m n x v.is in
    record { within = v.within; register = w.0; is = w.1 }

-- ---- one action, and any list

module _ (t : Table) where
  at_end : (s e : Reference) → s ≡ e → AllGenuine t s.trace → AllGenuine t e.trace
  at_end s e same g = subst (λ (z : Reference). AllGenuine t z.trace) same g

  step_genuine : (s : Reference) (p : ℕ) (o : Outcome) → local_step (code_of t p) (get_or s.machines p booted) ≡ o
      → AllGenuine t s.trace → (e : Reference) → stepped t s p o ≡ some e → AllGenuine t e.trace
  unfolding stepped posted with_machine
  step_genuine s p halted h g e k = absurd (no_way (cc))
  step_genuine s p no_mail h g e k = absurd (no_way (cc))
  step_genuine s p (moved m internal) h g e k = at_end (with_machine p m s) e (cc) g
  step_genuine s p (moved m (took x)) h g e k = at_end (with_machine p m s) e (cc) g
  step_genuine s p (moved m (sent x)) h g e k =
      at_end (posted t (sent_from p (get_or s.machines p booted).pc x) (with_machine p m s)) e (cc)
      (both_genuine g (one_shown (was_sent (sends_at t p (record { is = h }))) none-shown))

  act_genuine : (s : Reference) (a : Action) → AllGenuine t s.trace → (e : Reference) → act t s a ≡ some e → AllGenuine t e.trace
  unfolding act posted
  act_genuine s (inject x) g e k = go (ltb x.channel (length t.channels)) (eqb (channel_at t x.channel).sender environment) refl k
    where
      go : (a b : Bool) → eqb (channel_at t x.channel).sender environment ≡ b
          → cond a (cond b (some (posted t (from_outside x) s)) none) none ≡ some e → AllGenuine t e.trace
      go true true h f = at_end (posted t (from_outside x) s) e (cc) (both_genuine g (one_shown (was_fed (eqb-true _ _ h)) none-shown))
      go true false h f = absurd (no_way (cc))
      go false b h f = absurd (no_way (cc))
  act_genuine s (step p) g e k = go (ltb p (length s.machines)) k
    where
      go : (a : Bool) → cond a (stepped t s p (local_step (code_of t p) (get_or s.machines p booted))) none ≡ some e
          → AllGenuine t e.trace
      go true f = step_genuine s p (local_step (code_of t p) (get_or s.machines p booted)) refl g e f
      go false f = absurd (no_way (cc))

  run_genuine : (l : List Action) (s : Reference) → AllGenuine t s.trace → (e : Reference) → reference_run t s l ≡ some e
      → AllGenuine t e.trace
  unfolding reference_run
  run_genuine [] s g e k = at_end s e (cc) g
  run_genuine (a ∷ l) s g e k = go (act t s a) (λ u h. act_genuine s a g u h) (λ u h. run_genuine l u h e) k
    where
      go : (o : Option Reference) → ((u : Reference) → o ≡ some u → AllGenuine t u.trace)
          → ((u : Reference) → AllGenuine t u.trace → reference_run t u l ≡ some e → AllGenuine t e.trace)
          → and_then o (λ u. reference_run t u l) ≡ some e → AllGenuine t e.trace
      go none h ih f = absurd (no_way (cc))
      go (some u) h ih f = ih u (h u refl) f

  pub plain_genuine : (l : List Action) (e : Reference) → reference_run t (reference_start t) l ≡ some e → AllGenuine t e.trace
  unfolding reference_start
  plain_genuine l e k = run_genuine l (reference_start t) none-shown e k

-- ---- of every list of commands: each word that a record puts on the bus, taken back later (W-214) or not

rest_genuine : {t : Table} (l : List BusWord) {m : List BusWord} → AllGenuine t (l ++ m) → AllGenuine t m
rest_genuine [] h = h
rest_genuine (x ∷ l) (one_shown g r) = rest_genuine l r

abbrev bus_by : List Answer → List BusWord
bus_by l = bus_of (map numbers l) (map origin_of l)

bus_parts : (l m : List Answer) → bus_by (l ++ m) ≡ bus_by l ++ bus_by m
unfolding bus_of
bus_parts [] m = refl
bus_parts (a ∷ l) m =
    rw (← bus_cons (numbers a) (origin_of a) (map numbers (l ++ m)) (map origin_of (l ++ m)), bus_parts l m)
    (sym (append_assoc (on_bus a) (bus_by l) (bus_by m))
    ∙ ap (λ (x : List BusWord). x ++ bus_by m) (bus_cons (numbers a) (origin_of a) (map numbers l) (map origin_of l)))

undo_silent : (s : Session) (r : Command) (bare : Bool) (kept : List Cabinet)
    → on_bus (cond bare (undone s r kept) (record { session = s; answer = refused stray_word r.a })).answer ≡ []
unfolding undone bus_of numbers
undo_silent s r true [] = refused_bus none_kept r.a
undo_silent s r true (c ∷ older) = refl
undo_silent s r false kept = refused_bus stray_word r.a

module _ (t : Table) (ok : Accepted t) where
  moves_genuine : (commands : List Command) → AllGenuine t (bus_by (run_from t (started t) commands).answers)
  moves_genuine commands =
      let x = moves_transparent t ok commands in
      subst (AllGenuine t) x.same-trace (plain_genuine t x.actions x.end x.ran)

  answer_genuine : (s : Session) (l : List Noted) → Stands t s l → (r : Command) → AllGenuine t (on_bus (stride t s r).answer)
  unfolding stride undo
  answer_genuine s l h r = go (is_undo r) refl
    where
      records : List Command
      records = commands_of (reverse l)

      go : (b : Bool) → is_undo r ≡ b → AllGenuine t (on_bus (stride t s r).answer)
      go true e = rw (e, undo_silent s r (is_bare r) s.kept) none-shown
      go false e =
          let now : Answer = (turn t (run_from t (started t) records).cabinet r).answer in
          let more : bus_by (run_from t (started t) (records ++ (r ∷ []))).answers ≡ bus_by (run_from t (started t) records).answers ++ on_bus now =
          ap bus_by (one_answer-more t (started t) records r) ∙ bus_parts (run_from t (started t) records).answers (now ∷ []) in
          rw (forward-answers t (started t) s records h.keeps r e)
          (rest_genuine (bus_by (run_from t (started t) records).answers) (subst (AllGenuine t) more (moves_genuine (records ++ (r ∷ [])))))

  list_genuine : (s : Session) (l : List Noted) → Stands t s l → (commands : List Command) → AllGenuine t (bus_by (play_from t s commands).answers)
  unfolding play_from bus_of
  list_genuine s l h [] = none-shown
  list_genuine s l h (r ∷ rs) =
      let now : Answer = (stride t s r).answer in
      let rest : List Answer = (play_from t (stride t s r).session rs).answers in
      subst (AllGenuine t) (bus_cons (numbers now) (origin_of now) (map numbers rest) (map origin_of rest))
      (both_genuine (answer_genuine s l h r) (list_genuine (stride t s r).session (stands_after l (note t s r)) (stands-more t s l h r) rs))

-- ---- of what an accepted run leaves in its buffers

pub bus_genuine : (table schedule : List ℕ) (buffers : Buffers) → accepted table schedule buffers ≡ true
    → (let r = run table schedule buffers in AllGenuine (decode_table table) (bus_of (answers_in r) (origins_in r)))
bus_genuine table schedule buffers h =
    let t = decode_table table in
    rw (answers_read table schedule buffers h, origins_read table schedule buffers h)
    (list_genuine t (decoded_accepted table (table-valid table schedule buffers h)) (opened t) [] (stands-none t) (decode_schedule schedule))
