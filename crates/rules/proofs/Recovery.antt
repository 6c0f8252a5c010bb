-- W-211: after a crash, a return and a resync carried for each process every process has a backup again, so that the next crash is accepted; and
-- the plain run that explains a run so far goes on to explain the rest of it.
use mathlib.Core.Path.{◌≡◌, refl, ap, sym, ◌∙◌, subst}
use mathlib.Core.Bool.{Bool, true, false, not, cond, ◌||◌}
use mathlib.Core.Option.{Option, none, some}
use mathlib.Core.List.{List, [], ◌∷◌, ◌++◌}
use Prim.Native.Nat.{ℕ, ◌<◌}
use lib.Dec.{eqb}
use lib.ListN.{length, get_or, set}
use lib.Seq.{get_or-set_same, get_or-set_other, set_out}
use borrow.Author.Tests.{ne_eqb}
use Rattle.facts.specs.Tests.{no_way, no_such, by_eq, by_lt, or_left, or_right}
use Rattle.backup.specs.Replica.{Replica, Reply, Checkpoint, arrive, count, sync}
use Rattle.rules.specs.Table.{Table, channel_at, port_of}
use Rattle.rules.specs.Machine.{Mail}
use Rattle.rules.specs.Reference.{Reference, reference_start}
use Rattle.rules.specs.Cabinet.{Standby, Process, Cabinet, nobody, process_at, dead_at, is_complete, protected, some_unbacked}
use Rattle.rules.specs.Moves.{Command, Answer, crash_done, accept, guard, with_process, with_outbox, on_replica, on_backup, advanced, issued, receive, deliver, counts, keeps, completed, end_transfer, begin_transfer, sync_kept, sync_lost, crash, turn, run_from}
use Rattle.rules.specs.Judge.{Accepted}
use Rattle.rules.specs.Transparent.{finished}
use Rattle.rules.specs.Rebackup.{completes_for, any_completes, BeingMade}
use Rattle.rules.specs.Recovery.{is_crash, any_crash, Repairs, Continues}
use Rattle.rules.proofs.Invariant.{Invariant}
use Rattle.rules.proofs.Guards.{crashed_by, fed_mail, Done, yields_turn}
use Rattle.rules.proofs.Room.{Room}
use Rattle.rules.proofs.Sizes.{roomy}
use Rattle.rules.proofs.KeepRoom.{turn-room}
use Rattle.rules.proofs.Turn.{turn_follows, run_follows}
use Rattle.rules.proofs.Start.{reached}
use Rattle.rules.proofs.Pending.{oldest-made}

-- ---- a backup stays one

called-complete : (call : Replica → Reply) (o : Option Standby) → is_complete (on_replica call o) ≡ is_complete o
called-complete call none = refl
called-complete call (some s) = refl

backup-complete : (call : Replica → Reply) (o : Option Standby) → is_complete (on_backup call o) ≡ is_complete o
backup-complete call o = go (is_complete o)
  where
    go : (b : Bool) → is_complete (cond b (on_replica call o) o) ≡ is_complete o
    go true = called-complete call o
    go false = refl

-- process q becomes y, which has a backup if it had one
backed_set : (l : List Process) (q : ℕ) (y : Process) → (protected (get_or l q nobody) ≡ true → protected y ≡ true) → (p : ℕ)
    → protected (get_or l p nobody) ≡ true → protected (get_or (set l q y) p nobody) ≡ true
backed_set l q y h p safe =
    by_lt q (length l)
    (λ hq. by_eq p q
    (λ e. rw (e, get_or-set_same l q y nobody hq) (h (rw e at safe)))
    (λ n. ap protected (get_or-set_other l q p y nobody n) ∙ safe))
    (λ out. ap (λ (m : List Process). protected (get_or m p nobody)) (set_out l q y out) ∙ safe)

-- no carry of a resync is among it
known : (b : Bool) → b || false ≡ true → b ≡ true
known true e = refl
known false e = absurd (no_way (cc))

either : (a b : Bool) → a || b ≡ true → b ≡ false → a ≡ true
either true b e f = refl
either false true e f = absurd (no_way (cc))
either false false e f = absurd (no_way (cc))

-- ---- one command

module _ {t : Table} {c : Cabinet} {s : Reference} (inv : Invariant t c s) (r : Command) where
  -- no crash: a process that had a backup, or whose resync was carried, has one
  abbrev StaysBacked : Cabinet → Answer → Type 0
  StaysBacked d a = is_crash a ≡ false → (p : ℕ) → p < length c.processes → protected (process_at c p) || completes_for p a ≡ true → protected (process_at d p) ≡ true

  -- process q changes, and its backup isn't lost
  change_kept : (q : ℕ) (y : Process) → (protected (process_at c q) ≡ true → protected y ≡ true) → (p : ℕ)
      → protected (process_at c p) || false ≡ true → protected (get_or (set c.processes q y) p nobody) ≡ true
  change_kept q y h p e = backed_set c.processes q y h p (known (protected (process_at c p)) e)

  receive-kept : (l : List Process) (q : ℕ) (mail : Mail) (p : ℕ) → protected (get_or l p nobody) ≡ true
      → protected (get_or (set l q (receive t q mail (get_or l q nobody))) p nobody) ≡ true
  unfolding receive
  receive-kept l q mail p e =
      backed_set l q (receive t q mail (get_or l q nobody)) (λ h. called-complete (λ k. arrive k (port_of t q mail.channel) mail.word) (get_or l q nobody).standby ∙ h) p e

  counts-kept : (q p : ℕ) → protected (process_at c p) || false ≡ true → protected (get_or (set c.processes q (counts (process_at c q))) p nobody) ≡ true
  unfolding counts
  counts-kept q p e = change_kept q (counts (process_at c q)) (λ h. backup-complete count (process_at c q).standby ∙ h) p e

  keeps-kept : (q : ℕ) (v : Checkpoint) (p : ℕ) → protected (process_at c p) || false ≡ true → protected (get_or (set c.processes q (keeps v (process_at c q))) p nobody) ≡ true
  unfolding keeps
  keeps-kept q v p e = change_kept q (keeps v (process_at c q)) (λ h. backup-complete (λ k. sync k v) (process_at c q).standby ∙ h) p e

  landed-kept : (q dropped : ℕ) (b : Bool) (d : Cabinet) → ((p : ℕ) → protected (process_at c p) || false ≡ true → protected (process_at d p) ≡ true)
      → StaysBacked d (cond b (sync_kept q dropped) (sync_lost q))
  landed-kept q dropped true d h _ p hp e = h p e
  landed-kept q dropped false d h _ p hp e = h p e

  completed-kept : (q : ℕ) → BeingMade c q → (p : ℕ) → p < length c.processes → protected (process_at c p) || eqb p q ≡ true
      → protected (get_or (set c.processes q (end_transfer (process_at c q))) p nobody) ≡ true
  unfolding end_transfer
  completed-kept q m p hp e =
      let now : protected (end_transfer (process_at c q)) ≡ true = ap (λ (o : Option Standby). is_complete (completed o)) m.is-standby in
      by_eq p q
      (λ f. subst (λ (i : ℕ). protected (get_or (set c.processes q (end_transfer (process_at c q))) i nobody) ≡ true) (sym f)
      (ap protected (get_or-set_same c.processes q (end_transfer (process_at c q)) nobody (rw f at hp)) ∙ now))
      (λ n. backed_set c.processes q (end_transfer (process_at c q)) (λ _. now) p (either (protected (process_at c p)) (eqb p q) e (ne_eqb p q n)))

  keeps_backups : Done t c r (λ _ d a. StaysBacked d a)
  unfolding deliver advanced issued begin_transfer
  keeps_backups = record {
    computes = λ _ _ _ _ _ p _ e. change_kept r.a _ (λ h. h) p e;
    takes = λ _ _ _ _ _ _ p _ e. change_kept r.a _ (λ h. h) p e;
    suppresses = λ _ _ _ _ _ _ _ p _ e. change_kept r.a _ (λ h. h) p e;
    sends = λ _ _ _ _ _ _ _ _ _ p _ e. change_kept r.a _ (λ h. h) p e;
    issues = λ _ _ _ _ _ p _ e. change_kept r.a _ (λ h. h) p e;
    transmits = λ _ _ mail _ _ _ _ p _ e.
        let sender : ℕ = (channel_at t mail.channel).sender in
        receive-kept (set c.processes sender (counts (process_at c sender))) (channel_at t mail.channel).reader mail p (counts-kept sender p e);
    syncs = λ _ _ q v rest _. landed-kept q _ (protected (process_at c q)) (with_process q (keeps v (process_at c q)) (with_outbox r.a rest c)) (λ p e. keeps-kept q v p e);
    completes = λ _ _ q rest oldest _ p hp e. completed-kept q (oldest-made inv r.a q rest oldest) p hp e;
    injects = λ _ _ _ _ p _ e. receive-kept c.processes (channel_at t r.a).reader (fed_mail r) p (known (protected (process_at c p)) e);
    crashes = λ _ _ _ none-crashed. absurd (no_way (cc));
    rejoins = λ _ _ _ p _ e. known (protected (process_at c p)) e;
    rebackups = λ _ bare _ _ _ _ _ _ p _ e. change_kept r.a _ (λ h. absurd (no_way (cc))) p e;
  }

  turn-kept : StaysBacked (turn t c r).cabinet (turn t c r).answer
  turn-kept = yields_turn t c r (λ _ d a. StaysBacked d a) keeps_backups (λ _ why _ p _ e. known (protected (process_at c p)) e)

-- ---- any list of commands

run-kept : {t : Table} → Accepted t → (c : Cabinet) (s : Reference) → Invariant t c s → Room t [] c → (commands : List Command)
    → any_crash (run_from t c commands).answers ≡ false → (p : ℕ) → p < length c.processes
    → protected (process_at c p) || any_completes p (run_from t c commands).answers ≡ true → protected (process_at (run_from t c commands).cabinet p) ≡ true
unfolding run_from
run-kept ok c s inv rm [] none-crashed p hp e = known (protected (process_at c p)) e
run-kept {t} ok c s inv rm (r ∷ rs) none-crashed p hp e =
    let f = turn_follows ok inv (roomy t ok c s inv rm) r in
    let a : Answer = (turn t c r).answer in
    let later : List Answer = (run_from t (turn t c r).cabinet rs).answers in
    let not-now : is_crash a ≡ false = or_left (is_crash a) (any_crash later) none-crashed in
    let not-later = or_right (is_crash a) (any_crash later) none-crashed in
    let there : p < length (turn t c r).cabinet.processes = rw (f.invariant.all_processes, ← inv.all_processes) hp in
    run-kept ok (turn t c r).cabinet f.end f.invariant (turn-room t ok c s inv rm r) rs not-later p there
    (go (protected (process_at c p)) (completes_for p a) (any_completes p later) (protected (process_at (turn t c r).cabinet p)) e (turn-kept inv r not-now p hp))
  where
    go : (x now later y : Bool) → x || (now || later) ≡ true → (x || now ≡ true → y ≡ true) → y || later ≡ true
    go true now later true h k = refl
    go true now later false h k = absurd (no_way (let b = k refl in cc))
    go false true later true h k = refl
    go false true later false h k = absurd (no_way (let b = k refl in cc))
    go false false later true h k = refl
    go false false later false h k = h

module _ {t : Table} (ok : Accepted t) (before after : List Command) where
  -- every process has a backup again
  pub backed_again : Repairs t (finished t before) after → some_unbacked (run_from t (finished t before) after).cabinet ≡ false
  unfolding some_unbacked
  backed_again repairs =
      let f = reached t ok before in
      let inv = f.follows.invariant in
      let end = run_follows ok (finished t before) f.follows.end inv f.room after in
      no_such (λ p. not (protected (process_at (run_from t (finished t before) after).cabinet p))) (length (run_from t (finished t before) after).cabinet.processes)
      (λ p hp. let there : p < length t.processes = rw end.follows.invariant.all_processes at hp in
      ap not (run-kept ok (finished t before) f.follows.end inv f.room after repairs.no_crash p (rw inv.all_processes there) (repairs.each p there)))

  -- ---- nothing again

  pub continues : Continues t before after
  continues =
      let f = (reached t ok before).follows in
      let g = (run_follows ok (finished t before) f.end f.invariant (reached t ok before).room after).follows in
      record {
        actions = f.actions;
        mid = f.end;
        ran = f.ran;
        traced = f.traced ∙ (unfold reference_start in refl);
        fed = f.injected;
        more = g.actions;
        end = g.end;
        ran_on = g.ran;
        traced_on = g.traced;
        fed_on = g.injected;
      }

-- the two parts are the whole: its cabinet is the second's, its answers are both's
pub run-parts : (t : Table) (c : Cabinet) (before after : List Command)
    → run_from t c (before ++ after) ≡ record {
      cabinet = (run_from t (run_from t c before).cabinet after).cabinet;
      answers = (run_from t c before).answers ++ (run_from t (run_from t c before).cabinet after).answers;
    }
unfolding run_from
run-parts t c [] after = refl
run-parts t c (r ∷ rs) after = rw (run-parts t (turn t c r).cabinet rs after)

-- the cabinet after one record more
pub one_more : (t : Table) (c : Cabinet) (rs : List Command) (r : Command)
    → (run_from t c (rs ++ (r ∷ []))).cabinet ≡ (turn t (run_from t c rs).cabinet r).cabinet
unfolding run_from
one_more t c rs r = rw (run-parts t c rs (r ∷ []))

-- "so the next crash is accepted": of any live board, where every process has a backup
pub next-crash : (t : Table) (c : Cabinet) (b : ℕ) → some_unbacked c ≡ false → dead_at c b ≡ false → crash t c b ≡ accept (crashed_by t b c) crash_done
unfolding crash guard
next-crash t c b safe alive = rw (alive, safe)
