-- A cabinet that isn't quiet can go on by itself, or stands still by back-pressure (specs/Progress.antt).
use mathlib.Core.Path.{◌≡◌, refl, ap, ◌∙◌}
use mathlib.Core.Bool.{Bool, true, false, not, cond, ◌&&◌, ◌||◌}
use mathlib.Core.Option.{Option, none, some}
use mathlib.Core.List.{List, [], ◌∷◌, ◌++◌}
use Prim.Native.Nat.{ℕ, zero, suc, ◌≤◌, ◌<◌}
use native.Mathlib.Omega.{arith}
use native.Mathlib.Nat.{not-suc-le-zero}
use lib.Dec.{eqb, leb}
use lib.ListN.{length, get_or, set}
use lib.Seq.{get_or-set_same}
use borrow.Author.Tests.{lt-leb, leb-true, ltb-true, not-true, eqb-false}
use Rattle.facts.specs.Tests.{no_way, and_left, and_right, and_both, all_of, all_below, by_eq, by_lt}
use Rattle.facts.specs.Indexing.{all_of_lem}
use Rattle.facts.specs.Ranges.{all_given, all_of_given}
use Rattle.rules.specs.Table.{Table, Channel, environment, channel_at, code_of, limit_of}
use Rattle.rules.specs.Machine.{Mail, Machine, internal, took, sent, Outcome, halted, no_mail, moved, local_step}
use Rattle.rules.specs.Reference.{Reference}
use Rattle.rules.specs.Cabinet.{outbox_most, occupancy_most, instructions_most, Standby, Process, Item, message, checkpoint, transfer}
use Rattle.rules.specs.Cabinet.{Cabinet, nobody, process_at, outbox_at, dead_at, is_some, is_complete, protected, limited, exhausted, overrun}
use Rattle.rules.specs.Cabinet.{owing, unread_on, in_flight, occupancy, full, waiting, idle, is_empty, quiescent}
use Rattle.rules.specs.Moves.{Command, Answer, step_done, issue_done, received, queued, suppressed, sync_kept, sync_lost, numbers}
use Rattle.rules.specs.Moves.{refusal_number, Refusal, events_full, instructions_full, Result, refuse, accept, guard, with_process, enqueue}
use Rattle.rules.specs.Moves.{owed_for, send, step_from, step, issued, snapshot, issue, dropped_from, transmit_item, transmit_oldest}
use Rattle.rules.specs.Moves.{transmit, perform, judged, Turn, settle, turn, run_from}
use Rattle.rules.specs.Judge.{end_ok, ends_ok, Accepted}
use Rattle.rules.specs.Transparent.{finished}
use Rattle.progress.specs.Progress.{step_of, sync_of, carry_of, is_done, AllDone, Next, carries, steps, syncs, Pressed, Stands, waits}
use Rattle.progress.specs.Progress.{pressed, Progress, quiet, next, stands}
use Rattle.rules.proofs.Tables.{reader_past, limit_low}
use Rattle.rules.proofs.Invariant.{Invariant, owner, owner_of, in_table, its_outbox}
use Rattle.rules.proofs.Counting.{flight_joined}
use Rattle.rules.proofs.Totals.{same-totals}
use Rattle.rules.proofs.Pending.{made-waits}
use Rattle.rules.proofs.Start.{reached}

-- ---- the three moves, where nothing is wrong with the record

abbrev pub turned : Cabinet → Answer → Turn
turned d a = record { cabinet = d; answer = a }

module _ (t : Table) (c : Cabinet) where
  pub step-turn : (p : ℕ) → p < length t.processes
      → turn t c (step_of p) ≡ settle c (step_of p) (step_from t c p (process_at c p) (local_step (code_of t p) (process_at c p).machine))
  unfolding turn judged perform guard step
  step-turn p h = rw (lt-leb (length t.processes) p h)

  sync-turn : (p : ℕ) → p < length t.processes → turn t c (sync_of p) ≡ settle c (sync_of p) (issue t c p)
  unfolding turn judged perform guard
  sync-turn p h = rw (lt-leb (length t.processes) p h)

  carry_turn : (b : ℕ) → b < t.boards → turn t c (carry_of b) ≡ settle c (carry_of b) (transmit t c b)
  unfolding turn judged perform guard
  carry_turn b h = rw (lt-leb t.boards b h)

  -- a command that is done, and then others
  pub then_done : (r : Command) (rs : List Command) (d : Cabinet) (a : Answer) → turn t c r ≡ turned d a → is_done a ≡ true → AllDone t d rs → AllDone t c (r ∷ rs)
  unfolding run_from
  then_done r rs d a e done rest =
      and_both (is_done (turn t c r).answer) (all_of is_done (run_from t (turn t c r).cabinet rs).answers) (ap (λ (u : Turn). is_done u.answer) e ∙ done)
      (ap (λ (u : Turn). all_of is_done (run_from t u.cabinet rs).answers) e ∙ rest)

  one_done_lem : (r : Command) (d : Cabinet) (a : Answer) → turn t c r ≡ turned d a → is_done a ≡ true → AllDone t c (r ∷ [])
  unfolding run_from
  one_done_lem r d a e done = then_done r [] d a e done refl

-- a move that is done
record Accepts (result : Result) : Type 0 where
  pub cabinet : Cabinet
  pub answer : Answer
  pub is : result ≡ accept cabinet answer
  pub done : is_done answer ≡ true

past_guard : {test : Bool} {rest : Result} (why : Refusal) → test ≡ false → Accepts rest → Accepts (guard test why rest)
unfolding guard
past_guard why e a = rw e a

goes : (t : Table) (c : Cabinet) (r : Command) (result : Result) → turn t c r ≡ settle c r result → Accepts result → AllDone t c (r ∷ [])
goes t c r result e a = one_done_lem t c r a.cabinet a.answer (e ∙ ap (settle c r) a.is) a.done

-- ---- a queue with an entry

item_accepts : (t : Table) (c : Cabinet) (item : Item) → Accepts (transmit_item t c item)
unfolding transmit_item numbers
item_accepts t c (message mail pc) = record { cabinet = _; answer = _; is = refl; done = refl }
item_accepts t c (checkpoint p s) = record { cabinet = _; answer = _; is = refl; done = either (protected (process_at c p)) }
  where
    either : (b : Bool) → is_done (cond b (sync_kept p (dropped_from s (process_at c p).standby)) (sync_lost p)) ≡ true
    either true = refl
    either false = refl
item_accepts t c (transfer p) = record { cabinet = _; answer = _; is = refl; done = refl }

module _ {t : Table} {c : Cabinet} {s : Reference} (inv : Invariant t c s) where
  carry_next : (b : ℕ) (item : Item) (rest : List Item) → outbox_at c b ≡ item ∷ rest → Next t c
  unfolding transmit transmit_oldest
  carry_next b item rest e =
      let o = owner t c s b item rest inv e in
      let at = (inv.seated (owner_of t item) o.there).at in
      let there : b < t.boards = rw o.runs at at.there in
      let live : dead_at c b ≡ false = rw o.runs at at.live in
      carries b (goes t c (carry_of b) (transmit t c b) (carry_turn t c b there) (past_guard _ live (rw e (item_accepts t _ item))))

-- ---- a SEND that nothing refuses

send_accepts : (t : Table) (c : Cabinet) (p : ℕ) (y : Process) (m : Machine) (mail : Mail) (n : ℕ) → n ≡ 0 → owing (limit_of t p) y ≡ false
    → leb outbox_most (length (outbox_at c y.board)) ≡ false → full t c mail.channel ≡ false → Accepts (send t c p y m mail n)
unfolding send numbers
send_accepts t c p y m mail zero z f g h =
    past_guard _ f (past_guard _ g (past_guard _ h (record { cabinet = _; answer = queued mail; is = refl; done = refl })))
send_accepts t c p y m mail (suc n) z f g h = absurd (omega arith)

-- ---- no queue has an entry: one process

-- it stands, or something can be done
data Found (t : Table) (c : Cabinet) (p : ℕ) : Type 0 where
  standing : Stands t c p → Found t c p
  going : Next t c → Found t c p

pub no_flight : (k : ℕ) (qs : List (List Item)) → ((b : ℕ) → get_or qs b [] ≡ []) → in_flight k qs ≡ 0
no_flight k [] h = refl
no_flight k (q ∷ qs) h = rw (h 0) (let e = no_flight k qs (λ b. h (suc b)) in omega arith)

-- a channel that is held has a reader
held-reader : (t : Table) → Accepted t → (c : Cabinet) (k : ℕ) → full t c k ≡ true → (channel_at t k).reader < length t.processes
unfolding full ends_ok
held-reader t ok c k h =
    let inside : eqb (channel_at t k).reader environment ≡ false = not-true _ (and_left _ (leb occupancy_most (occupancy t c k)) h) in
    by_lt k (length t.channels)
    (λ l. ltb-true _ _ (go _ _ inside (and_left _ _ (and_right (end_ok (length t.processes) (channel_at t k).sender) _
    (all_of_lem (λ (e : Channel). end_ok (length t.processes) e.sender
    && (end_ok (length t.processes) e.reader && not (eqb e.sender environment && eqb e.reader environment))) t.channels ok.ends k _ l)))))
    (λ l. absurd (eqb-false _ _ inside (reader_past t k l)))
  where
    go : (a b : Bool) → b ≡ false → a || b ≡ true → a ≡ true
    go true b e f = refl
    go false b e f = absurd (no_way (cc))

-- and where no word is in a queue, 8 unread words there
held-unread : (t : Table) (c : Cabinet) → ((b : ℕ) → outbox_at c b ≡ []) → (k : ℕ) → full t c k ≡ true
    → occupancy_most ≤ unread_on k (process_at c (channel_at t k).reader).machine.mailbox
unfolding full occupancy
held-unread t c empty k h =
    let a : occupancy_most ≤ occupancy t c k = leb-true occupancy_most (occupancy t c k) (and_right (not (eqb (channel_at t k).reader environment)) _ h) in
    let f = no_flight k c.outboxes empty in
    omega arith

module _ {t : Table} (ok : Accepted t) {c : Cabinet} {s : Reference} (inv : Invariant t c s) (empty : (b : ℕ) → outbox_at c b ≡ []) (p : ℕ)
    (hp : p < length c.processes) where
  abbrev x : Process
  x = process_at c p

  there : p < length t.processes
  there = in_table inv hp

  -- a process that 37 limits has a backup: no resync waits
  safe : limited x ≡ true → protected x ≡ true
  safe h = go x.standby refl h
    where
      complete : (k : Standby) → x.standby ≡ some k → (b : Bool) → k.complete ≡ b → b ≡ true
      complete k e true i = refl
      complete k e false i = absurd (no_way (let w : waiting p [] ≡ true = rw (empty x.board) at (made-waits inv p hp k e i) in cc))

      go : (o : Option Standby) → x.standby ≡ o → is_some o ≡ true → is_complete o ≡ true
      go none e l = absurd (no_way (cc))
      go (some k) e l = complete k e k.complete refl

  -- so that it can issue a sync, after which it owes none
  abbrev synced : Cabinet
  synced = with_process p (issued x) (enqueue x.board (checkpoint p (snapshot x)) c)

  sync-done : limited x ≡ true → turn t c (sync_of p) ≡ turned synced issue_done
  unfolding issue guard
  sync-done l = sync-turn t c p there ∙ rw (safe l, empty x.board)

  not-overrun : overrun (issued x) ≡ false
  unfolding overrun issued
  not-overrun = go (limited x)
    where
      go : (b : Bool) → b && false ≡ false
      go true = refl
      go false = refl

  not-owing : owing (limit_of t p) (issued x) ≡ false
  unfolding overrun exhausted owing issued
  not-owing = rw (lt-leb (limit_of t p) 0 (limit_low t ok p there)) (go (limited x))
    where
      go : (b : Bool) → (b && false) || (b && false) ≡ false
      go true = refl
      go false = refl

  as_before : (k : ℕ) → full t synced k ≡ full t c k
  unfolding full issued
  as_before k =
      ap (λ (n : ℕ). not (eqb (channel_at t k).reader environment) && leb occupancy_most n)
      (same-totals t c p (issued x) (set c.outboxes x.board (outbox_at c x.board ++ (checkpoint p (snapshot x) ∷ []))) refl
      (λ j. let f = flight_joined j c.outboxes x.board (checkpoint p (snapshot x)) (its_outbox inv hp) in omega arith) k)

  room : leb outbox_most (length (outbox_at c x.board)) ≡ false
  room = rw (empty x.board)

  -- the step that a sync makes possible
  synced-is : process_at synced p ≡ issued x
  synced-is = get_or-set_same c.processes p (issued x) nobody hp

  outbox_is : outbox_at synced x.board ≡ checkpoint p (snapshot x) ∷ []
  outbox_is = get_or-set_same c.outboxes x.board (outbox_at c x.board ++ (checkpoint p (snapshot x) ∷ [])) [] (its_outbox inv hp)
      ∙ ap (λ (q : List Item). q ++ (checkpoint p (snapshot x) ∷ [])) (empty x.board)

  room_still : leb outbox_most (length (outbox_at synced x.board)) ≡ false
  room_still = rw outbox_is

  synced-turn : (o : Outcome) → local_step (code_of t p) x.machine ≡ o → turn t synced (step_of p) ≡ settle synced (step_of p) (step_from t synced p (issued x) o)
  unfolding issued
  synced-turn o e =
      step-turn t synced p there
      ∙ ap (λ (y : Process). settle synced (step_of p) (step_from t synced p y (local_step (code_of t p) y.machine))) synced-is
      ∙ ap (λ (u : Outcome). settle synced (step_of p) (step_from t synced p (issued x) u)) e

  plain_turn : (o : Outcome) → local_step (code_of t p) x.machine ≡ o → turn t c (step_of p) ≡ settle c (step_of p) (step_from t c p x o)
  plain_turn o e = step-turn t c p there ∙ ap (λ (u : Outcome). settle c (step_of p) (step_from t c p x u)) e

  at_once : (o : Outcome) → local_step (code_of t p) x.machine ≡ o → Accepts (step_from t c p x o) → Found t c p
  at_once o e a = going (steps p (goes t c (step_of p) (step_from t c p x o) (plain_turn o e) a))

  after-sync : (o : Outcome) → local_step (code_of t p) x.machine ≡ o → limited x ≡ true → (why : Refusal) → step_from t c p x o ≡ refuse why
      → refusal_number why ≡ 37 → Accepts (step_from t synced p (issued x) o) → Found t c p
  unfolding numbers
  after-sync o e l why owes is a =
      going (syncs p
      (ap (λ (u : Turn). (numbers u.answer).code) (plain_turn o e ∙ ap (settle c (step_of p)) owes) ∙ is)
      (then_done t c (sync_of p) (step_of p ∷ []) synced issue_done (sync-done l) refl
      (goes t synced (step_of p) (step_from t synced p (issued x) o) (synced-turn o e) a)))

  owed_is : (b : Bool) → refusal_number (cond b events_full instructions_full) ≡ 37
  unfolding refusal_number
  owed_is true = refl
  owed_is false = refl

  owing-limited : (limit : ℕ) → owing limit x ≡ true → limited x ≡ true
  unfolding owing exhausted overrun
  owing-limited limit h = go (limited x) h
    where
      go : (b : Bool) → (b && leb limit x.since.events) || (b && leb instructions_most x.since.instructions) ≡ true → b ≡ true
      go true e = refl
      go false e = e

  by_internal : (m : Machine) → local_step (code_of t p) x.machine ≡ moved m internal → (b : Bool) → overrun x ≡ b → Found t c p
  unfolding step_from guard overrun numbers refusal_number
  by_internal m e false f = at_once (moved m internal) e (past_guard _ f (record { cabinet = _; answer = step_done; is = refl; done = refl }))
  by_internal m e true f =
      after-sync (moved m internal) e (and_left (limited x) _ f) instructions_full (rw f) refl
      (past_guard _ not-overrun (record { cabinet = _; answer = step_done; is = refl; done = refl }))

  by_took : (m : Machine) (mail : Mail) → local_step (code_of t p) x.machine ≡ moved m (took mail) → (b : Bool) → owing (limit_of t p) x ≡ b → Found t c p
  unfolding step_from guard numbers
  by_took m mail e false f = at_once (moved m (took mail)) e (past_guard _ f (record { cabinet = _; answer = received mail; is = refl; done = refl }))
  by_took m mail e true f =
      after-sync (moved m (took mail)) e (owing-limited (limit_of t p) f) (owed_for (limit_of t p) x) (rw f) (owed_is (exhausted (limit_of t p) x))
      (past_guard _ not-owing (record { cabinet = _; answer = received mail; is = refl; done = refl }))

  by_full : (m : Machine) (mail : Mail) → local_step (code_of t p) x.machine ≡ moved m (sent mail) → x.suppress ≡ 0
      → (b d : Bool) → full t c mail.channel ≡ b → owing (limit_of t p) x ≡ d → Found t c p
  unfolding step_from send guard numbers issued
  by_full m mail e z true d h f =
      standing (pressed record {
        word = mail;
        after = m;
        sends = e;
        not-held_back = z;
        held = h;
        reader = held-reader t ok c mail.channel h;
        unread = held-unread t c empty mail.channel h;
      })
  by_full m mail e z false false h f =
      at_once (moved m (sent mail)) e (send_accepts t c p x m mail x.suppress z f room h)
  by_full m mail e z false true h f =
      after-sync (moved m (sent mail)) e (owing-limited (limit_of t p) f) (owed_for (limit_of t p) x) (rw (z, f)) (owed_is (exhausted (limit_of t p) x))
      (send_accepts t synced p (issued x) m mail x.suppress z not-owing room_still (as_before mail.channel ∙ h))

  by_sent : (m : Machine) (mail : Mail) → local_step (code_of t p) x.machine ≡ moved m (sent mail) → (n : ℕ) → x.suppress ≡ n → Found t c p
  unfolding step_from send numbers
  by_sent m mail e zero z = by_full m mail e z (full t c mail.channel) (owing (limit_of t p) x) refl refl
  by_sent m mail e (suc n) z = at_once (moved m (sent mail)) e (rw z (record { cabinet = _; answer = suppressed mail; is = refl; done = refl }))

  by_outcome : (o : Outcome) → local_step (code_of t p) x.machine ≡ o → Found t c p
  by_outcome halted e = standing (waits (rw e))
  by_outcome no_mail e = standing (waits (rw e))
  by_outcome (moved m internal) e = by_internal m e (overrun x) refl
  by_outcome (moved m (took mail)) e = by_took m mail e (owing (limit_of t p) x) refl
  by_outcome (moved m (sent mail)) e = by_sent m mail e x.suppress refl

  found : Found t c p
  found = by_outcome (local_step (code_of t p) x.machine) refl

-- ---- all of them

-- an entry of some queue, or none
by_items : {P : Type 0} (qs : List (List Item)) → ((b : ℕ) (item : Item) (rest : List Item) → get_or qs b [] ≡ item ∷ rest → P)
    → (((b : ℕ) → get_or qs b [] ≡ []) → P) → P
by_items [] f g = g (λ b. refl)
by_items ((x ∷ q) ∷ qs) f g = f 0 x q refl
by_items ([] ∷ qs) f g = by_items qs (λ b. f (suc b)) (λ h. g (go h))
  where
    go : ((b : ℕ) → get_or qs b [] ≡ []) → (b : ℕ) → get_or ([] ∷ qs) b [] ≡ []
    go h zero = refl
    go h (suc b) = h b

-- a test that holds of every number below n, or fails at one
by_all : {P : Type 0} (f : ℕ → Bool) (n : ℕ) → (((j : ℕ) → j < n → f j ≡ true) → P) → ((j : ℕ) → j < n → f j ≡ false → P) → P
by_all {P} f zero g h = g (λ j l. absurd (not-suc-le-zero l))
by_all {P} f (suc n) g h = go (f n) refl (λ k. by_all f n k (λ j l. h j (omega arith)))
  where
    go : (b : Bool) → f n ≡ b → ((((j : ℕ) → j < n → f j ≡ true) → P) → P) → P
    go true e rest = rest (λ all. g (λ j l. by_eq j n (λ i. rw i e) (λ i. all j (omega arith))))
    go false e rest = h n (omega arith) e

by_found : {P : Type 0} {t : Table} {c : Cabinet} (n : ℕ) → ((p : ℕ) → p < n → Found t c p) → (((p : ℕ) → p < n → Stands t c p) → P) → (Next t c → P) → P
by_found zero f g h = g (λ p l. absurd (not-suc-le-zero l))
by_found {P} {t} {c} (suc n) f g h = go (f n (omega arith)) (λ k. by_found n (λ p l. f p (omega arith)) k h)
  where
    go : Found t c n → ((((p : ℕ) → p < n → Stands t c p) → P) → P) → P
    go (standing v) rest = rest (λ all. g (λ p l. by_eq p n (λ i. rw i v) (λ i. all p (omega arith))))
    go (going v) rest = h v

-- a process that does nothing and could stands before a held channel
busy_pressed : {t : Table} {c : Cabinet} {p : ℕ} → Stands t c p → idle (local_step (code_of t p) (process_at c p).machine) ≡ false → Pressed t c p
busy_pressed (waits i) e = absurd (no_way (cc))
busy_pressed (pressed h) e = h

module _ {t : Table} (ok : Accepted t) {c : Cabinet} {s : Reference} (inv : Invariant t c s) where
  goes_on : Progress t c
  unfolding quiescent
  goes_on =
      by_items c.outboxes (λ b item rest e. next (carry_next inv b item rest e))
      (λ empty. by_found (length c.processes) (found ok inv empty)
      (λ all. by_all (λ p. idle (local_step (code_of t p) (process_at c p).machine)) (length c.processes)
      (λ still. quiet (and_both (all_below (λ p. idle (local_step (code_of t p) (process_at c p).machine)) (length c.processes)) (all_of is_empty c.outboxes)
      (all_given _ _ still) (all_of_given is_empty c.outboxes [] (λ j _. ap is_empty (empty j)))))
      (λ p hp busy. stands record {
        empty = empty;
        each = λ q l. all q (rw inv.all_processes l);
        process = p;
        there = in_table inv hp;
        before = busy_pressed (all p hp) busy;
      }))
      next)

-- ---- of every state that commands reach

-- it is quiet, or goes on by a carry, a step, or a sync that is owed and then a step, or stands still by back-pressure
pub progress : {t : Table} → Accepted t → (commands : List Command) → Progress t (finished t commands)
progress {t} ok commands = goes_on ok (reached t ok commands).follows.invariant
