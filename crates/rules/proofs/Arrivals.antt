-- "When that entry is carried, its other table board holds a new record with those words, then all that have arrived since issue, and count 0":
-- while a record is being made, a command adds to it the word that arrived, if one did, and changes nothing else; the carry of its resync
-- changes only whether it is complete. So any part of a run adds, in order, the words that arrived in it.
use mathlib.Core.Path.{◌≡◌, refl, ap, sym, ◌∙◌, subst}
use mathlib.Core.Bool.{Bool, true, false, cond}
use mathlib.Core.Option.{Option, some}
use mathlib.Core.List.{List, [], ◌∷◌, ◌++◌, map, append_assoc, append-nil}
use Prim.Native.Nat.{ℕ, ◌<◌}
use native.Mathlib.Omega.{arith}
use lib.Dec.{eqb}
use lib.ListN.{length, get_or, set, length-set}
use lib.Seq.{get_or-set_same, get_or-set_other}
use borrow.Author.Tests.{eq-eqb, ne_eqb, lt-leb}
use Rattle.facts.specs.Tests.{no_way, by_eq, or_left, or_right}
use Rattle.backup.specs.Limits.{log_most, sent_most}
use Rattle.backup.specs.Replica.{Message, Replica, Checkpoint, arrive, count, sync}
use Rattle.rules.specs.Table.{Table, channel_at, port_of}
use Rattle.rules.specs.Machine.{Mail}
use Rattle.rules.specs.Reference.{Reference}
use Rattle.rules.specs.Cabinet.{Standby, Process, Cabinet, nobody, process_at, outbox_at, is_complete, protected, other_board, waiting, started}
use Rattle.rules.specs.Moves.{Command, Answer, numbers, sync_kept, sync_lost, dropped_from, on_backup, advanced, issued, receive, deliver, counts, keeps, completed, end_transfer, copied, begin_transfer, rebackup, rebackup_done, accept, guard, perform, judged, Turn, turn, run_from}
use Rattle.rules.specs.Judge.{Accepted}
use Rattle.rules.specs.Transparent.{trace_of}
use Rattle.rules.specs.Schedule.{command}
use Rattle.rules.specs.Rebackup.{arrivals, with_arrivals, bus_words, completes_for, any_completes, grown, Grown}
use Rattle.rules.proofs.Good.{Kept, good_kept, good_small}
use Rattle.rules.proofs.Tables.{limit_high}
use Rattle.rules.proofs.Backups.{called, not-called, arrives}
use Rattle.rules.proofs.Invariant.{Invariant, in_table, RoomFor, Roomy}
use Rattle.rules.proofs.Guards.{fed_mail, rebackup_by, Done, yields_turn, guard-accepted}
use Rattle.rules.proofs.CrashKeeps.{all_backed}
use Rattle.rules.proofs.Room.{Room}
use Rattle.rules.proofs.Sizes.{roomy}
use Rattle.rules.proofs.KeepRoom.{turn-room}
use Rattle.rules.proofs.Turn.{refused-trace, turn_follows, trace_cons}
use Rattle.rules.proofs.Start.{reached}
use Rattle.rules.proofs.Pending.{made-waits}

-- ---- a record with nothing added

-- the log of a record, replaced
abbrev logged : Replica → List Message → Replica
logged r log = record { log = log; sent = r.sent; pc = r.pc; registers = r.registers }

none_added : (t : Table) (p : ℕ) (k : Standby) (complete : Bool) {o : Option Standby}
    → o ≡ some (record { board = k.board; replica = k.replica; complete = complete }) → o ≡ some (grown t p k [] complete)
none_added t p k complete e =
    e ∙ ap (λ (l : List Message). some (record { board = k.board; replica = logged k.replica l; complete = complete })) (sym (append-nil k.replica.log))

module _ {t : Table} (ok : Accepted t) {c : Cabinet} {s : Reference} (inv : Invariant t c s) (room : Roomy t c) (p : ℕ) (hp : p < length c.processes) (k : Standby)
    (has : (process_at c p).standby ≡ some k) (made : k.complete ≡ false) where
  -- nothing is added, and it isn't complete
  same-made : {o : Option Standby} → o ≡ some k → o ≡ some (grown t p k [] false)
  same-made e = none_added t p k false (e ∙ ap (λ (b : Bool). some (record { board = k.board; replica = k.replica; complete = b })) made)

  -- process q becomes y, with p's record as it was
  standby-after : (q : ℕ) (y : Process) → (q ≡ p → y.standby ≡ (process_at c p).standby) → (get_or (set c.processes q y) p nobody).standby ≡ some k
  standby-after q y h =
      by_eq p q
      (λ e. ap (λ (x : Process). x.standby) (ap (λ (i : ℕ). get_or (set c.processes q y) i nobody) e ∙ get_or-set_same c.processes q y nobody (rw (sym e) hp))
      ∙ h (sym e) ∙ has)
      (λ n. ap (λ (x : Process). x.standby) (get_or-set_other c.processes q p y nobody n) ∙ has)

  same-standby : (q : ℕ) (y : Process) → y.standby ≡ (process_at c q).standby → (get_or (set c.processes q y) p nobody).standby ≡ some k
  same-standby q y h = standby-after q y (λ e. h ∙ ap (λ (i : ℕ). (process_at c i).standby) e)

  -- ---- a word arrives

  kept : Kept t p k.replica
  kept = good_kept (inv.good p hp) has

  few : k.replica.sent < sent_most
  few = let a = (good_small (inv.good p hp) has).few-sent in let b = limit_high t ok p in omega arith

  room_here : (channel : ℕ) → RoomFor t c channel → (channel_at t channel).reader ≡ p → length k.replica.log < log_most
  room_here channel fits e = fits k (ap (λ (i : ℕ). (process_at c i).standby) e ∙ has)

  -- among processes of which p still has this record
  word_added : (l : List Process) (mail : Mail) → length l ≡ length c.processes → (get_or l p nobody).standby ≡ some k
      → ((channel_at t mail.channel).reader ≡ p → length k.replica.log < log_most)
      → (let reader = (channel_at t mail.channel).reader in (get_or (set l reader (receive t reader mail (get_or l reader nobody))) p nobody).standby)
      ≡ some (grown t p k (mail ∷ []) false)
  unfolding receive
  word_added l mail same here fits =
      let r : ℕ = (channel_at t mail.channel).reader in
      by_eq r p
      (λ e. let now : get_or (set l r (receive t r mail (get_or l r nobody))) p nobody ≡ receive t p mail (get_or l p nobody) =
      subst (λ (i : ℕ). get_or (set l i (receive t i mail (get_or l i nobody))) p nobody ≡ receive t p mail (get_or l p nobody)) (sym e)
      (get_or-set_same l p (receive t p mail (get_or l p nobody)) nobody (rw same hp)) in
      let one : arrivals t p (mail ∷ []) ≡ record { port = port_of t p mail.channel; word = mail.word } ∷ [] = rw (eq-eqb r p e) in
      ap (λ (x : Process). x.standby) now
      ∙ called (λ v. arrive v (port_of t p mail.channel) mail.word) here
      (arrives t ok p (in_table inv hp) k.replica kept few mail e (fits e) ∙ ap (λ (n : List Message). logged k.replica (k.replica.log ++ n)) (sym one))
      ∙ ap (λ (b : Bool). some (grown t p k (mail ∷ []) b)) made)
      (λ n. let none_here : arrivals t p (mail ∷ []) ≡ [] = rw (ne_eqb r p n) in
      same-made (ap (λ (x : Process). x.standby) (get_or-set_other l r p _ nobody (λ f. n (sym f))) ∙ here)
      ∙ ap (λ (w : List Message). some (record { board = k.board; replica = logged k.replica (k.replica.log ++ w); complete = false })) (sym none_here))

  -- the sender's record counts it; one that is being made doesn't
  counted_then : (mail : Mail)
      → (let sender = (channel_at t mail.channel).sender in (get_or (set c.processes sender (counts (process_at c sender))) p nobody).standby) ≡ some k
  unfolding counts
  counted_then mail =
      let q : ℕ = (channel_at t mail.channel).sender in
      standby-after q (counts (process_at c q)) (λ e. ap (λ (i : ℕ). on_backup count (process_at c i).standby) e ∙ not-called count has made ∙ sym has)

  -- ---- the other entries

  landed_then : (q dropped : ℕ) (b : Bool) {o : Option Standby} → o ≡ some (grown t p k [] false)
      → o ≡ some (grown t p k (bus_words (cond b (sync_kept q dropped) (sync_lost q))) (completes_for p (cond b (sync_kept q dropped) (sync_lost q))))
  unfolding numbers trace_of
  landed_then q dropped true h = h
  landed_then q dropped false h = h

  synced_then : (q : ℕ) (v : Checkpoint) → (get_or (set c.processes q (keeps v (process_at c q))) p nobody).standby ≡ some k
  unfolding keeps
  synced_then q v =
      standby-after q (keeps v (process_at c q)) (λ e. ap (λ (i : ℕ). on_backup (λ r. sync r v) (process_at c i).standby) e ∙ not-called (λ r. sync r v) has made ∙ sym has)

  -- the carry of its own resync
  completed_then : (q : ℕ) → (get_or (set c.processes q (end_transfer (process_at c q))) p nobody).standby
      ≡ some (grown t p k [] (eqb p q))
  unfolding end_transfer
  completed_then q =
      by_eq q p
      (λ e. let now : get_or (set c.processes q (end_transfer (process_at c q))) p nobody ≡ end_transfer (process_at c p) =
      subst (λ (i : ℕ). get_or (set c.processes i (end_transfer (process_at c i))) p nobody ≡ end_transfer (process_at c p)) (sym e)
      (get_or-set_same c.processes p (end_transfer (process_at c p)) nobody hp) in
      rw (eq-eqb p q (sym e)) (none_added t p k true (ap (λ (x : Process). x.standby) now ∙ ap completed has)))
      (λ n. rw (ne_eqb p q (λ f. n (sym f)))
      (none_added t p k false (ap (λ (x : Process). x.standby) (get_or-set_other c.processes q p _ nobody (λ f. n (sym f))) ∙ has
      ∙ ap (λ (b : Bool). some (record { board = k.board; replica = k.replica; complete = b })) made)))

  -- another resync of it is refused with 41
  begin_transfer_then : (q : ℕ) → waiting q (outbox_at c (process_at c q).board) ≡ false → (get_or (set c.processes q (begin_transfer t q (process_at c q))) p nobody).standby ≡ some k
  begin_transfer_then q none-waits =
      standby-after q _ (λ e. absurd (no_way (let a = made-waits inv p hp k has made in
      let b : waiting p (outbox_at c (process_at c p).board) ≡ false = subst (λ (i : ℕ). waiting i (outbox_at c (process_at c i).board) ≡ false) e none-waits in cc)))

  -- ---- one command

  module _ (r : Command) where
    grows : Done t c r (λ _ d a. Grown t p k (bus_words a) (completes_for p a) d)
    unfolding numbers trace_of deliver advanced issued
    grows = record {
      computes = λ _ _ _ _. same-made (same-standby r.a _ refl);
      takes = λ _ _ _ _ _. same-made (same-standby r.a _ refl);
      suppresses = λ _ _ _ _ _ _. same-made (same-standby r.a _ refl);
      sends = λ _ _ _ _ _ _ _ _. same-made (same-standby r.a _ refl);
      issues = λ _ _ _ _. same-made (same-standby r.a _ refl);
      transmits = λ _ _ mail pc rest oldest.
          let q : ℕ = (channel_at t mail.channel).sender in
          word_added (set c.processes q (counts (process_at c q))) mail (length-set c.processes q (counts (process_at c q))) (counted_then mail)
          (room_here mail.channel (room.for_oldest r.a mail pc rest oldest));
      syncs = λ _ _ q v _ _. landed_then q (dropped_from v (process_at c q).standby) (protected (process_at c q)) (same-made (synced_then q v));
      completes = λ _ _ q _ _. completed_then q;
      injects = λ _ outside free. word_added c.processes (fed_mail r) refl has (room_here r.a (room.for_feed r.a outside free));
      crashes = λ _ _ safe. absurd (no_way (let a = all_backed c safe p hp in let b = ap is_complete has in cc));
      rejoins = λ _ _. same-made has;
      rebackups = λ _ _ _ _ _ none-waits _. same-made (begin_transfer_then r.a none-waits);
    }

    pub turn_grows : Grown t p k (bus_words (turn t c r).answer) (completes_for p (turn t c r).answer) (turn t c r).cabinet
    turn_grows =
        yields_turn t c r (λ _ d a. Grown t p k (bus_words a) (completes_for p a) d) grows
        (λ _ why. subst (λ (l : List Mail). Grown t p k l false c) (sym (refused-trace why r.a)) (same-made has))

-- ---- any list of commands

arrivals_append : (t : Table) (p : ℕ) (l r : List Mail) → arrivals t p (l ++ r) ≡ arrivals t p l ++ arrivals t p r
arrivals_append t p [] r = refl
arrivals_append t p (x ∷ l) r = rw (arrivals_append t p l r) (go (eqb (channel_at t x.channel).reader p))
  where
    go : (b : Bool) → cond b (record { port = port_of t p x.channel; word = x.word } ∷ (arrivals t p l ++ arrivals t p r)) (arrivals t p l ++ arrivals t p r)
        ≡ cond b (record { port = port_of t p x.channel; word = x.word } ∷ arrivals t p l) (arrivals t p l) ++ arrivals t p r
    go true = refl
    go false = refl

added_twice : (t : Table) (p : ℕ) (r : Replica) (first then : List Mail) → with_arrivals t p (with_arrivals t p r first) then ≡ with_arrivals t p r (first ++ then)
added_twice t p r first then =
    ap (logged r) (append_assoc r.log (arrivals t p first) (arrivals t p then) ∙ ap (λ (l : List Message). r.log ++ l) (sym (arrivals_append t p first then)))

-- until its resync is carried
pub run_grows : {t : Table} → Accepted t → (c : Cabinet) (s : Reference) → Invariant t c s → Room t [] c → (p : ℕ) → p < length c.processes → (k : Standby)
    → (process_at c p).standby ≡ some k → k.complete ≡ false → (commands : List Command) → any_completes p (run_from t c commands).answers ≡ false
    → Grown t p k (trace_of (map numbers (run_from t c commands).answers)) false (run_from t c commands).cabinet
unfolding run_from trace_of
run_grows {t} ok c s inv rm p hp k has made [] none_yet =
    none_added t p k false (has ∙ ap (λ (b : Bool). some (record { board = k.board; replica = k.replica; complete = b })) made)
run_grows {t} ok c s inv rm p hp k has made (r ∷ rs) none_yet =
    let room = roomy t ok c s inv rm in
    let f = turn_follows ok inv room r in
    let a : Answer = (turn t c r).answer in
    let first : List Mail = bus_words a in
    let later : List Mail = trace_of (map numbers (run_from t (turn t c r).cabinet rs).answers) in
    let not-now : completes_for p a ≡ false = or_left (completes_for p a) (any_completes p (run_from t (turn t c r).cabinet rs).answers) none_yet in
    let not-later = or_right (completes_for p a) (any_completes p (run_from t (turn t c r).cabinet rs).answers) none_yet in
    let k' : Standby = grown t p k first false in
    let now : (process_at (turn t c r).cabinet p).standby ≡ some k' = subst (λ (b : Bool). Grown t p k first b (turn t c r).cabinet) not-now (turn_grows ok inv room p hp k has made r) in
    let there : p < length (turn t c r).cabinet.processes = rw (f.invariant.all_processes, ← inv.all_processes) hp in
    run_grows ok (turn t c r).cabinet f.end f.invariant (turn-room t ok c s inv rm r) p there k' now refl rs not-later
    ∙ ap (λ (n : Replica). some (record { board = k.board; replica = n; complete = false })) (added_twice t p k.replica first later
    ∙ ap (with_arrivals t p k.replica) (trace_cons (numbers a) (map numbers (run_from t (turn t c r).cabinet rs).answers)))

-- ---- from a resync on, in every state that commands reach

-- what an accepted resync leaves
opens : (t : Table) (c : Cabinet) (p : ℕ) → p < length c.processes → {d : Cabinet} {a : Answer} → rebackup t c p ≡ accept d a
    → (process_at d p).standby ≡ some (record { board = other_board t p (process_at c p); replica = copied t p (process_at c p).machine; complete = false })
unfolding rebackup begin_transfer
opens t c p hp {d} {a} e =
    let made : accept (rebackup_by t p c) rebackup_done ≡ accept d a = guard-accepted _ _ _ (guard-accepted _ _ _ (guard-accepted _ _ _ (guard-accepted _ _ _ e))) in
    let same : rebackup_by t p c ≡ d = cc in
    ap (λ (x : Cabinet). (process_at x p).standby) (sym same)
    ∙ ap (λ (x : Process). x.standby) (get_or-set_same c.processes p (begin_transfer t p (process_at c p)) nobody hp)

-- the command that does it
turn-rebackup : (t : Table) (c : Cabinet) (p : ℕ) → p < length t.processes → {d : Cabinet} {a : Answer} → rebackup t c p ≡ accept d a
    → turn t c (command 7 p 0) ≡ record { cabinet = d; answer = a }
unfolding turn judged perform guard
turn-rebackup t c p h e = rw (lt-leb (length t.processes) p h, e)

module _ {t : Table} (ok : Accepted t) (before : List Command) (p : ℕ) (h : p < length t.processes) where
  -- "While it is being made a command adds to it the word that arrived, if one did, and nothing else"; "the carry changes only whether it is complete"
  pub made_grows : (k : Standby) → (process_at (run_from t (started t) before).cabinet p).standby ≡ some k → k.complete ≡ false → (r : Command)
      → (let now = turn t (run_from t (started t) before).cabinet r in Grown t p k (bus_words now.answer) (completes_for p now.answer) now.cabinet)
  made_grows k has made r =
      let f = reached t ok before in
      let inv = f.follows.invariant in
      turn_grows ok inv (roomy t ok _ _ inv f.room) p (rw inv.all_processes h) k has made r

  -- the resync's own record: "its snapshot and copies of all its unread words"
  abbrev opened : Standby
  opened = record {
    board = other_board t p (process_at (run_from t (started t) before).cabinet p);
    replica = copied t p (process_at (run_from t (started t) before).cabinet p).machine;
    complete = false;
  }

  -- a resync that is done, then any commands, until it is carried: "those words, then all that have arrived since issue"
  pub since-issue : (d : Cabinet) (a : Answer) → rebackup t (run_from t (started t) before).cabinet p ≡ accept d a → (after : List Command)
      → any_completes p (run_from t d after).answers ≡ false
      → Grown t p opened (trace_of (map numbers (run_from t d after).answers)) false (run_from t d after).cabinet
  since-issue d a e after none_yet =
      let f = reached t ok before in
      let inv = f.follows.invariant in
      let room = roomy t ok _ _ inv f.room in
      let r : Command = command 7 p 0 in
      let g = turn_follows ok inv room r in
      let same : (turn t (run_from t (started t) before).cabinet r).cabinet ≡ d = ap (λ (x : Turn). x.cabinet) (turn-rebackup t _ p h e) in
      let inv' : Invariant t d g.end = subst (λ (x : Cabinet). Invariant t x g.end) same g.invariant in
      let rm' : Room t [] d = subst (Room t []) same (turn-room t ok _ _ inv f.room r) in
      run_grows ok d g.end inv' rm' p (rw inv'.all_processes h) opened (opens t _ p (rw inv.all_processes h) e) refl after none_yet
