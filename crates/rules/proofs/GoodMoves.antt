-- Each move keeps what holds of one process; Carried has the carries, Transfers a resync and its carry.
use mathlib.Core.Path.{◌≡◌, refl, ap, sym, ◌∙◌, subst}
use mathlib.Core.Bool.{true, false}
use mathlib.Core.Option.{some}
use mathlib.Core.List.{List, [], ◌∷◌, ◌++◌}
use Prim.Native.Nat.{ℕ, zero, suc, ◌≤◌, ◌<◌}
use native.Mathlib.Omega.{arith}
use lib.ListN.{length}
use Rattle.facts.specs.Tests.{no_way}
use Rattle.backup.specs.Limits.{log_most, sent_most}
use Rattle.backup.specs.Replica.{Replica, FailOver, arrive, arrived, fail_over}
use Rattle.rules.specs.Table.{Table, channel_at, code_of, limit_of, port_of}
use Rattle.rules.specs.Machine.{Mail, Machine, Act, sent, delivered}
use Rattle.rules.specs.Cabinet.{Standby, Since, Process, Item, message, checkpoint, protected, limited, is_some, is_complete}
use Rattle.rules.specs.Moves.{advanced, counting, one_sent, issued, snapshot, receive, recovered, promoted, unprotected}
use Rattle.rules.specs.Judge.{Accepted}
use Rattle.rules.proofs.Steps.{Steps}
use Rattle.rules.proofs.Runs.{Run, here, more, ◌then◌, is_send, count1, count_of, Allows, within_snoc}
use Rattle.rules.proofs.Tables.{step_low, limit_high}
use Rattle.rules.proofs.Ahead.{Ahead, level, checkpoints, checkpoints_append, ahead_later, ahead_silent, ahead_send, ahead_issue, UpToEnd, up_to_end, ahead_total, ahead_left}
use Rattle.rules.proofs.Good.{state_of, Replay, Link, trailing, coming, Backed, Alone, Late, Good, backed, alone, late, backed_sent, backed_trailing, good_backed}
use Rattle.rules.proofs.Links.{link_later, link_silent, link_send, coming_some}
use Rattle.rules.proofs.Tally.{count_snoc}
use Rattle.rules.proofs.Replays.{replay_later, replay_silent, replay_send, replay_zero}
use Rattle.rules.proofs.Backups.{called, run_low, arrives, arrived_state, arrived-kept, takes_over, recovers}

module _ {t : Table} (ok : Accepted t) {p : ℕ} {items : List Item} {x : Process} {m : Machine} where
  pub sent-fits : (h : Backed t p items x m) → h.standby.replica.sent < sent_most
  sent-fits h = let a = backed_sent h in let b = limit_high t ok p in omega arith

-- what is counted of a limited process
counting-limited : (f : Since → Since) (x : Process) → limited x ≡ true → counting f x ≡ f x.since
counting-limited f x h = rw h

then_counted : (t : Table) (p : ℕ) (ks : List Act) (k : Act) (x : Process) → limited x ≡ true → x.since ≡ count_of t p ks
    → counting (count1 t p k) x ≡ count_of t p (ks ++ (k ∷ []))
then_counted t p ks k x safe e = counting-limited (count1 t p k) x safe ∙ ap (count1 t p k) e ∙ sym (count_snoc t p ks k)

-- rolled forward to the reference machine
pub alone_of_late : {t : Table} {p : ℕ} {items : List Item} {x : Process} {m : Machine} → x.suppress ≡ 0 → Late t p items x m → Alone t p items x m
alone_of_late {t} {p} {items} {x} {m} z h =
    let same : x.machine ≡ m = replay_zero (subst (λ (n : ℕ). Replay (code_of t p) x.machine n h.acts m) z h.replay) in
    record {
      no_standby = h.no_standby;
      no_suppress = z;
      before = [];
      since = [];
      ahead = rw h.no_items (subst (λ (a : Machine). Ahead t p [] a [] [] x.machine) same level);
      one = rw h.no_items (omega arith);
      low = h.low;
    }

module _ {t : Table} (ok : Accepted t) {p : ℕ} (hp : p < length t.processes) where
  -- ---- a word arrives

  pub good_receive : {items : List Item} {x : Process} {m : Machine} (mail : Mail) → (channel_at t mail.channel).reader ≡ p
      → ((s : Standby) → x.standby ≡ some s → length s.replica.log < log_most)
      → Good t p items x m → Good t p items (receive t p mail x) (delivered mail m)
  unfolding receive
  good_receive {x = x} {m = m} mail reads room (backed h) =
      let r : Replica = h.standby.replica in
      let fits = room h.standby h.is-standby in
      backed record {
        standby = record { board = h.standby.board; replica = arrived r (port_of t p mail.channel) mail.word; complete = h.standby.complete };
        is-standby = called (λ s. arrive s (port_of t p mail.channel) mail.word) h.is-standby (arrives t ok p hp r h.kept (sent-fits ok h) mail reads fits);
        kept = arrived-kept t ok p hp r h.kept (sent-fits ok h) mail reads fits;
        no_suppress = h.no_suppress;
        since = h.since;
        link = link_later mail _ (arrived_state t ok p hp r h.kept (sent-fits ok h) mail reads) refl h.link;
        is-since = h.is-since;
        few = h.few;
      }
  good_receive mail reads room (alone h) =
      alone record {
        no_standby = rw h.no_standby;
        no_suppress = h.no_suppress;
        before = h.before;
        since = h.since;
        ahead = ahead_later mail h.ahead;
        one = h.one;
        low = (unfold delivered in h.low);
      }
  good_receive mail reads room (late h) =
      late record {
        no_standby = rw h.no_standby;
        no_items = h.no_items;
        few = h.few;
        acts = h.acts;
        short = h.short;
        replay = replay_later mail h.replay;
        low = (unfold delivered in h.low);
      }

  -- ---- step

  alone_silent : {items : List Item} {x : Process} {m n : Machine} {k : Act} (counted : Since) → Alone t p items x m
      → Steps (code_of t p) x.machine k n → is_send k ≡ false → Alone t p items (advanced n counted x.suppress x) m
  unfolding advanced
  alone_silent {k = k} counted h e s =
      record {
        no_standby = h.no_standby;
        no_suppress = h.no_suppress;
        before = h.before;
        since = h.since ++ (k ∷ []);
        ahead = ahead_silent h.ahead e s;
        one = h.one;
        low = step_low t ok p hp e;
      }

  late_silent : {items : List Item} {x : Process} {m n : Machine} {k : Act} (counted : Since) (suppress : ℕ) → x.suppress ≡ suppress → Late t p items x m
      → Steps (code_of t p) x.machine k n → is_send k ≡ false → Good t p items (advanced n counted x.suppress x) m
  unfolding advanced
  late_silent counted zero z h e s = alone (alone_silent counted (alone_of_late z h) e s)
  late_silent {x = x} {m = m} {n = n} counted (suc i) z h e s =
      let v = replay_silent (subst (λ (j : ℕ). Replay (code_of t p) x.machine j h.acts m) z h.replay) e s in
      late record {
        no_standby = h.no_standby;
        no_items = h.no_items;
        few = h.few;
        acts = v.acts;
        short = (let l = h.short in let w = v.fewer in omega arith);
        replay = subst (λ (j : ℕ). Replay (code_of t p) n j v.acts m) (sym z) v.replay;
        low = step_low t ok p hp e;
      }

  -- an instruction that sends nothing, where 37 lets it pass: of a limited process it is counted
  pub good_silent : {items : List Item} {x : Process} {m n : Machine} {k : Act} → Good t p items x m → Steps (code_of t p) x.machine k n
      → is_send k ≡ false → (limited x ≡ true → Allows (limit_of t p) k x.since) → Good t p items (advanced n (counting (count1 t p k) x) x.suppress x) m
  unfolding advanced
  good_silent {x = x} {k = k} (backed h) e s limit =
      let safe : limited x ≡ true = ap is_some h.is-standby in
      backed record {
        standby = h.standby;
        is-standby = h.is-standby;
        kept = h.kept;
        no_suppress = h.no_suppress;
        since = h.since ++ (k ∷ []);
        link = link_silent h.link e s;
        is-since = then_counted t p h.since k x safe h.is-since;
        few = within_snoc t p h.since k h.is-since h.few (limit safe);
      }
  good_silent {x = x} {k = k} (alone h) e s limit = alone (alone_silent (counting (count1 t p k) x) h e s)
  good_silent {x = x} {k = k} (late h) e s limit = late_silent (counting (count1 t p k) x) x.suppress refl h e s

  -- a send is suppressed
  pub good_suppressed : {items : List Item} {x : Process} {m n : Machine} {mail : Mail} {i : ℕ} → Good t p items x m → x.suppress ≡ suc i
      → Steps (code_of t p) x.machine (sent mail) n → Good t p items (advanced n x.since i x) m
  unfolding advanced
  good_suppressed (backed h) z e = absurd (let y = h.no_suppress in omega arith)
  good_suppressed (alone h) z e = absurd (let y = h.no_suppress in omega arith)
  good_suppressed {x = x} {m = m} (late h) z e =
      let v = replay_send (subst (λ (j : ℕ). Replay (code_of t p) x.machine j h.acts m) z h.replay) e in
      late record {
        no_standby = h.no_standby;
        no_items = h.no_items;
        few = (let l = h.few in omega arith);
        acts = v.acts;
        short = (let l = h.short in let w = v.fewer in omega arith);
        replay = v.replay;
        low = step_low t ok p hp e;
      }

  alone_send : {items : List Item} {x : Process} {m n : Machine} {mail : Mail} (counted : Since) → Alone t p items x m
      → Steps (code_of t p) x.machine (sent mail) n → Alone t p (items ++ (message mail x.machine.pc ∷ [])) (advanced n counted 0 x) m
  unfolding advanced
  alone_send {items = items} {x = x} {mail = mail} counted h e =
      record {
        no_standby = h.no_standby;
        no_suppress = refl;
        before = h.before;
        since = h.since ++ (sent mail ∷ []);
        ahead = ahead_send h.ahead e;
        one = (let o = h.one in let c = checkpoints_append items (message mail x.machine.pc ∷ []) in omega arith);
        low = step_low t ok p hp e;
      }

  -- a word joins the outbox
  pub good_send : {items : List Item} {x : Process} {m n : Machine} {mail : Mail} → Good t p items x m → x.suppress ≡ 0
      → Steps (code_of t p) x.machine (sent mail) n → (limited x ≡ true → Allows (limit_of t p) (sent mail) x.since)
      → Good t p (items ++ (message mail x.machine.pc ∷ [])) (advanced n (counting one_sent x) 0 x) m
  unfolding advanced
  good_send {x = x} {mail = mail} (backed h) z e limit =
      let safe : limited x ≡ true = ap is_some h.is-standby in
      backed record {
        standby = h.standby;
        is-standby = h.is-standby;
        kept = h.kept;
        no_suppress = refl;
        since = h.since ++ (sent mail ∷ []);
        link = link_send h.link e;
        is-since = then_counted t p h.since (sent mail) x safe h.is-since;
        few = within_snoc t p h.since (sent mail) h.is-since h.few (limit safe);
      }
  good_send {x = x} (alone h) z e limit = alone (alone_send (counting one_sent x) h e)
  good_send {x = x} (late h) z e limit = alone (alone_send (counting one_sent x) (alone_of_late z h) e)

  -- ---- sync

  pub good_issued : {items : List Item} {x : Process} {m : Machine} → Good t p items x m → protected x ≡ true → checkpoints items ≡ 0
      → Good t p (items ++ (checkpoint p (snapshot x) ∷ [])) (issued x) m
  unfolding issued
  good_issued {items = items} {x = x} {m = m} (backed h) y z =
      let l = backed_trailing h y in
      backed record {
        standby = h.standby;
        is-standby = h.is-standby;
        kept = h.kept;
        no_suppress = h.no_suppress;
        since = [];
        link = trailing record {
          complete = l.complete;
          before = l.before;
          replay = l.replay;
          ahead = subst (λ (n : Since). Ahead t p l.before m (items ++ (checkpoint p (record { pc = x.machine.pc; registers = x.machine.registers; taken = n.taken }) ∷ [])) [] x.machine)
              (sym h.is-since) (ahead_issue l.ahead h.few);
          one = (let o = checkpoints_append items (checkpoint p (snapshot x) ∷ []) in omega arith);
        };
        is-since = refl;
        few = record { instructions = omega arith; events = omega arith };
      }
  good_issued (alone h) y z = absurd (no_way (let e = ap is_complete h.no_standby in cc))
  good_issued (late h) y z = absurd (no_way (let e = ap is_complete h.no_standby in cc))

  -- ---- crash

  -- its board crashes: it goes on at its backup, behind the reference machine by what was transmitted since
  late_promoted : {items : List Item} {x : Process} {m : Machine} (h : Backed t p items x m) → protected x ≡ true → Late t p [] (promoted t p h.standby) m
  unfolding promoted state_of
  late_promoted {m = m} h safe =
      let l = backed_trailing h safe in
      let r : Replica = h.standby.replica in
      let machine-is : recovered t p (fail_over r) ≡ state_of t p r = recovers t ok p hp r h.kept (sent-fits ok h) in
      let sent_is : (fail_over r).sent ≡ r.sent = ap (λ (f : FailOver). f.sent) (takes_over t ok p hp r h.kept (sent-fits ok h)) in
      record {
        no_standby = refl;
        no_items = refl;
        few = rw sent_is (backed_sent h);
        acts = l.before;
        short = (ahead_left l.ahead h.few).instructions;
        replay = rw (machine-is, sent_is) l.replay;
        low = subst (λ (a : Machine). a.pc ≤ length (code_of t p)) (sym machine-is) h.kept.low;
      }

  pub good_promoted : {items : List Item} {x : Process} {m : Machine} {s : Standby} → Good t p items x m → x.standby ≡ some s → protected x ≡ true
      → Good t p [] (promoted t p s) m
  good_promoted {m = m} g has safe = good_backed (λ s. Good t p [] (promoted t p s) m) g has (λ h. late (late_promoted h safe))

  -- its backup's board crashes
  alone_unprotected : {items : List Item} {x : Process} {m : Machine} → Backed t p items x m → protected x ≡ true → Alone t p items (unprotected x) m
  unfolding unprotected state_of
  alone_unprotected h safe =
      let l = backed_trailing h safe in
      record {
        no_standby = refl;
        no_suppress = h.no_suppress;
        before = l.before;
        since = h.since;
        ahead = l.ahead;
        one = l.one;
        low = run_low t ok p hp (l.replay.ran then (ahead_total l.ahead).ran) h.kept.low;
      }

  pub good_unprotected : {items : List Item} {x : Process} {m : Machine} {s : Standby} → Good t p items x m → x.standby ≡ some s → protected x ≡ true
      → Good t p items (unprotected x) m
  good_unprotected {items} {x} {m} g has safe = good_backed (λ _. Good t p items (unprotected x) m) g has (λ h. alone (alone_unprotected h safe))

-- ---- at a quiet end

-- a process that can't step is one of which nothing is late: the reference machine steps silently to it
pub good_quiet : {t : Table} {p : ℕ} {x : Process} {m : Machine} → Good t p [] x m → ((n : Machine) (k : Act) → Steps (code_of t p) x.machine k n → ⊥)
    → UpToEnd (code_of t p) m x.machine
good_quiet {t} {p} {x} {m} (backed h) stuck = go h.link
  where
    go : Link t p h.standby [] m h.since x.machine → UpToEnd (code_of t p) m x.machine
    go (trailing l) = up_to_end l.ahead
    go (coming l) = absurd (coming_some l)
good_quiet (alone h) stuck = up_to_end h.ahead
good_quiet {t} {p} {x = x} {m = m} (late h) stuck = go h.replay.ran stuck
  where
    go : {acts : List Act} {a : Machine} → Run (code_of t p) a acts m → ((n : Machine) (k : Act) → Steps (code_of t p) a k n → ⊥) → UpToEnd (code_of t p) m a
    go here s = record { acts = []; to_end = here; silent_there = tt }
    go (more {m1 = m1} {k = k} e r) s = absurd (s m1 k e)
