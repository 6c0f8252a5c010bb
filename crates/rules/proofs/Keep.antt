-- Each move keeps the room. A crash does so where each backup's words are the mailbox's and at most so many received ones (`Behind`).
use mathlib.Core.Logic.{◌≢◌}
use mathlib.Core.Path.{◌≡◌, refl, ap, sym, ◌∙◌}
use mathlib.Core.Bool.{Bool, true, false, cond}
use mathlib.Core.Option.{Option, none, some}
use mathlib.Core.List.{List, [], ◌∷◌, ◌++◌}
use Prim.Native.Nat.{ℕ, ◌+◌, ◌*◌, ◌≤◌, ◌<◌}
use native.Mathlib.Omega.{arith}
use lib.Dec.{eqb}
use lib.ListN.{length, set, length-map}
use lib.Seq.{get_or-set_same}
use Rattle.facts.specs.Tests.{no_way}
use Rattle.facts.specs.Indexing.{get_or_map}
use Rattle.facts.specs.Counts.{occurs}
use Rattle.backup.specs.Replica.{Checkpoint, count, sync}
use Rattle.rules.specs.Table.{Table, environment, channel_at, code_of, limit_of, nowhere}
use Rattle.rules.specs.Machine.{Mail, Machine, Act, sent, moved, local_step, booted}
use Rattle.rules.specs.Cabinet.{occupancy_most, Standby, Since, Process, Item, message, checkpoint, transfer, Cabinet, nobody, process_at, outbox_at, limited, is_some, full, unread_on, in_flight, placed, started}
use Rattle.rules.specs.Moves.{with_process, with_outbox, enqueue, advanced, issued, snapshot, deliver, counts, keeps, end_transfer, promoted, unprotected, after_crash, begin_transfer}
use Rattle.rules.proofs.Counting.{weight, step-unread, flight_join, flight_leave, flight_lost, flight_none}
use Rattle.rules.proofs.Steps.{Steps}
use Rattle.rules.proofs.Room.{Roomed, Room, change_by, change_room, admit, deliver-room, backup-some, completed-some}
use Rattle.rules.proofs.Guards.{crashed_by, rejoined_by}
use Rattle.rules.proofs.Crashed.{crash-length, crash_at}

module _ (t : Table) (c : Cabinet) (small : length c.processes ≤ environment) (rm : Room t [] c) where
  -- ---- step

  module _ (p : ℕ) (m : Machine) (a : Act) (e : local_step (code_of t p) (process_at c p).machine ≡ moved m a) where
    fewer : (k : ℕ) → unread_on k m.mailbox ≤ unread_on k (process_at c p).machine.mailbox
    fewer k =
        let s : Steps (code_of t p) (process_at c p).machine a m = record { is = e } in
        let h = step-unread k a s in
        omega arith

    -- it goes on, and what it sends, if anything, has been admitted
    step_room : (pending : List ℕ) → Room t pending c → (counted : Since) (suppress : ℕ) (qs : List (List Item))
        → ((k : ℕ) → in_flight k qs ≤ in_flight k c.outboxes + occurs k pending)
        → Room t [] (record { processes = set c.processes p (advanced m counted suppress (process_at c p)); outboxes = qs; dead = c.dead })
    unfolding advanced
    step_room pending with-pending counted suppress qs joins =
        change_room t pending [] c with-pending p (advanced m counted suppress (process_at c p)) qs
        (λ k. let y = joins k in omega arith)
        (λ h. h)
        (λ k. let x = fewer k in let y = joins k in omega arith)
        (λ hp k n. let x = fewer k in let y = (with-pending p hp).own k n in omega arith)

    -- it sends nothing
    pub stays : (counted : Since) (suppress : ℕ) → Room t [] (with_process p (advanced m counted suppress (process_at c p)) c)
    stays counted suppress = step_room [] rm counted suppress c.outboxes (λ k. omega arith)

  pub sent-room : (p : ℕ) (m : Machine) (mail : Mail) → local_step (code_of t p) (process_at c p).machine ≡ moved m (sent mail) → full t c mail.channel ≡ false
      → (counted : Since)
      → Room t []
      (with_process p (advanced m counted 0 (process_at c p)) (enqueue (process_at c p).board (message mail (process_at c p).machine.pc) c))
  sent-room p m mail e free counted =
      step_room p m (sent mail) e (mail.channel ∷ []) (admit t c mail.channel small free rm) counted 0 _
      (λ k. let j = flight_join k c.outboxes (process_at c p).board (message mail (process_at c p).machine.pc) in omega arith)

  -- ---- sync

  pub issued-room : (p : ℕ) → Room t [] (with_process p (issued (process_at c p)) (enqueue (process_at c p).board (checkpoint p (snapshot (process_at c p))) c))
  unfolding issued
  issued-room p =
      let joins : (k : ℕ) → in_flight k (set c.outboxes (process_at c p).board (outbox_at c (process_at c p).board ++ (checkpoint p (snapshot (process_at c p)) ∷ []))) ≤ in_flight k c.outboxes =
      λ k. (let j = flight_join k c.outboxes (process_at c p).board (checkpoint p (snapshot (process_at c p))) in omega arith) in
      change_room t [] [] c rm p (issued (process_at c p)) _
      (λ k. let j = joins k in omega arith)
      (λ h. h)
      (λ k. let j = joins k in omega arith)
      (λ hp k n. (rm p hp).own k n)

  -- ---- feed

  pub fed-room : (mail : Mail) → full t c mail.channel ≡ false → Room t [] (deliver t mail c)
  fed-room mail free = deliver-room t c mail (admit t c mail.channel small free rm)

  -- ---- carry

  -- the oldest entry leaves, and a process with the same machine is limited as before; a word that left is pending
  called-room : (b p : ℕ) (item : Item) (rest : List Item) (pending : List ℕ) → outbox_at c b ≡ item ∷ rest → ((k : ℕ) → occurs k pending ≤ weight k item)
      → (x : Process) → x.machine ≡ (process_at c p).machine → limited x ≡ limited (process_at c p)
      → Room t pending (with_process p x (with_outbox b rest c))
  called-room b p item rest pending e few x same-machine same-limit =
      let same-mail : (k : ℕ) → unread_on k x.machine.mailbox ≡ unread_on k (process_at c p).machine.mailbox =
      λ k. ap (λ (m : Machine). unread_on k m.mailbox) same-machine in
      change_room t [] pending c rm p x (set c.outboxes b rest)
      (λ k. let d = few k in let l = flight_leave k c.outboxes b item rest e in omega arith)
      (λ h. sym same-limit ∙ h)
      (λ k. let a = same-mail k in let d = few k in let l = flight_leave k c.outboxes b item rest e in omega arith)
      (λ hp k n. same-mail k ∙ (rm p hp).own k n)

  pub word_room : (b : ℕ) (mail : Mail) (pc : ℕ) (rest : List Item) → outbox_at c b ≡ message mail pc ∷ rest
      → (let sender = (channel_at t mail.channel).sender in Room t [] (deliver t mail (with_process sender (counts (process_at c sender)) (with_outbox b rest c))))
  unfolding counts
  word_room b mail pc rest e =
      let sender : ℕ = (channel_at t mail.channel).sender in
      deliver-room t _ mail
      (called-room b sender (message mail pc) rest (mail.channel ∷ []) e (λ k. omega arith) (counts (process_at c sender)) refl
      (backup-some count (process_at c sender).standby))

  pub sync-room : (b p : ℕ) (s : Checkpoint) (rest : List Item) → outbox_at c b ≡ checkpoint p s ∷ rest
      → Room t [] (with_process p (keeps s (process_at c p)) (with_outbox b rest c))
  unfolding keeps
  sync-room b p s rest e =
      called-room b p (checkpoint p s) rest [] e (λ k. omega arith) (keeps s (process_at c p)) refl (backup-some (λ r. sync r s) (process_at c p).standby)

  pub transfer-room : (b p : ℕ) (rest : List Item) → outbox_at c b ≡ transfer p ∷ rest
      → Room t [] (with_process p (end_transfer (process_at c p)) (with_outbox b rest c))
  unfolding end_transfer
  transfer-room b p rest e =
      called-room b p (transfer p) rest [] e (λ k. omega arith) (end_transfer (process_at c p)) refl (completed-some (process_at c p).standby)

  -- ---- return

  pub rejoin-room : (b : ℕ) → Room t [] (rejoined_by b c)
  rejoin-room b p hp =
      let r = rm p hp in
      record {
        again = r.again;
        few = r.few;
        none_yet = r.none_yet;
        room = λ k g. let a = r.room k g in let l = flight_lost k c.outboxes b in omega arith;
        own = r.own;
      }

  -- ---- resync

  -- no channel is crowded, so that nothing is there again
  pub rebackup-room : (p : ℕ)
      → ((k : ℕ) → (channel_at t k).reader ≡ p → unread_on k (process_at c p).machine.mailbox + in_flight k c.outboxes ≤ occupancy_most)
      → Room t [] (with_process p (begin_transfer t p (process_at c p)) (enqueue (process_at c p).board (transfer p) c))
  unfolding begin_transfer
  rebackup-room p few =
      let joins : (k : ℕ) → in_flight k (set c.outboxes (process_at c p).board (outbox_at c (process_at c p).board ++ (transfer p ∷ []))) ≤ in_flight k c.outboxes =
      λ k. (let j = flight_join k c.outboxes (process_at c p).board (transfer p) in omega arith) in
      change_by t [] [] c rm p (begin_transfer t p (process_at c p)) _
      (λ k. let j = joins k in omega arith)
      (λ hp. let e = get_or-set_same c.processes p (begin_transfer t p (process_at c p)) nobody hp in
      record {
        again = [];
        few = omega arith;
        none_yet = λ _. refl;
        room = λ k g. rw e (let a = few k g in let j = joins k in omega arith);
        own = λ k g. rw e ((rm p hp).own k g);
      })

-- ---- crash

-- a backup's words are those that are unread and those that were received since its checkpoint, at most two issues' worth
pub record Behind (t : Table) (x : Process) (p : ℕ) (s : Standby) : Type 0 where
  pub received : List ℕ
  pub few : length received ≤ 2 * limit_of t p
  pub words : (k : ℕ) → unread_on k (promoted t p s).machine.mailbox ≡ unread_on k x.machine.mailbox + occurs k received
  pub own : (k : ℕ) → (channel_at t k).reader ≢ p → unread_on k (promoted t p s).machine.mailbox ≡ 0

module _ (t : Table) (c : Cabinet) (rm : Room t [] c)
    (behind : (p : ℕ) → p < length c.processes → (s : Standby) → (process_at c p).standby ≡ some s → Behind t (process_at c p) p s) (b : ℕ) where
  crashed : Cabinet
  crashed = crashed_by t b c

  module _ (p : ℕ) (hp : p < length c.processes) where
    -- the crash makes y of a process, with no other words
    as_before : (y : Process) → process_at crashed p ≡ y → (limited y ≡ true → limited (process_at c p) ≡ true) → y.machine ≡ (process_at c p).machine
        → Roomed t [] crashed p
    unfolding crashed
    as_before y is_y kind same-machine =
        let r = rm p hp in
        let same-mail : (k : ℕ) → unread_on k y.machine.mailbox ≡ unread_on k (process_at c p).machine.mailbox =
        λ k. ap (λ (m : Machine). unread_on k m.mailbox) same-machine in
        record {
          again = r.again;
          few = r.few;
          none_yet = λ g. r.none_yet (kind (ap limited (sym is_y) ∙ g));
          room = λ k g. rw is_y (let a = r.room k g in let l = flight_lost k c.outboxes b in let d = same-mail k in omega arith);
          own = λ k g. rw is_y (same-mail k ∙ r.own k g);
        }

    -- it goes on at its backup
    at_backup : (s : Standby) → (process_at c p).standby ≡ some s → process_at crashed p ≡ promoted t p s → Roomed t [] crashed p
    unfolding crashed promoted
    at_backup s has is-promoted =
        let r = rm p hp in
        let v = behind p hp s has in
        record {
          again = v.received;
          few = v.few;
          none_yet = λ g. absurd (no_way (let a = ap limited (sym is-promoted) ∙ g in cc));
          room = λ k g.
              rw is-promoted
              (let a = r.room k g in
              let l = flight_lost k c.outboxes b in
              let d = v.words k in
              let z : occurs k r.again ≡ 0 = ap (occurs k) (r.none_yet (ap is_some has)) in
              omega arith);
          own = λ k g. rw is-promoted (v.own k g);
        }

    by_standby : (o : Option Standby) → (process_at c p).standby ≡ o → process_at crashed p ≡ after_crash t b p (process_at c p) o → Roomed t [] crashed p
    unfolding after_crash unprotected
    by_standby none has e = as_before (process_at c p) e (λ h. h) refl
    by_standby (some s) has e = go (eqb b (process_at c p).board) (eqb b s.board) e
      where
        go : (here there : Bool) → process_at crashed p ≡ cond here (promoted t p s) (cond there (unprotected (process_at c p)) (process_at c p))
            → Roomed t [] crashed p
        go true there e' = at_backup s has e'
        go false true e' = as_before (unprotected (process_at c p)) e' (λ h. absurd (no_way (cc))) refl
        go false false e' = as_before (process_at c p) e' (λ h. h) refl

  pub crash-room : Room t [] (crashed_by t b c)
  unfolding crashed
  crash-room p hp =
      let h : p < length c.processes = rw (crash-length t b 0 c.processes) at hp in
      by_standby p h (process_at c p).standby refl (crash_at t b c.processes p h)

-- ---- the start

pub start_room : (t : Table) → Room t [] (started t)
unfolding started placed booted
start_room t p hp =
    let there : p < length t.processes = rw length-map at hp in
    let e = get_or_map placed t.processes p nowhere nobody there in
    record {
      again = [];
      few = omega arith;
      none_yet = λ _. refl;
      room = λ k _. rw e (let a = flight_none k t.boards in omega arith);
      own = λ k _. rw e;
    }
