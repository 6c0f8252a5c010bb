-- A word of a process, and a checkpoint of it, are carried: what holds of the process is kept, and the reference machine goes on.
use mathlib.Core.Path.{◌≡◌, ap, subst}
use mathlib.Core.List.{List, [], ◌∷◌, ◌++◌}
use Prim.Native.Nat.{ℕ, ◌+◌, ◌<◌}
use native.Mathlib.Omega.{arith}
use lib.ListN.{length}
use Rattle.facts.specs.Tests.{no_way}
use Rattle.backup.specs.Replica.{Replica, Checkpoint, count, counted, sync, synced}
use Rattle.rules.specs.Table.{Table, code_of}
use Rattle.rules.specs.Machine.{Mail, Machine, Act, sent}
use Rattle.rules.specs.Cabinet.{Process, Item, message, checkpoint, transfer}
use Rattle.rules.specs.Moves.{counts, keeps}
use Rattle.rules.specs.Judge.{Accepted}
use Rattle.rules.proofs.Steps.{Steps}
use Rattle.rules.proofs.Runs.{Run, ◌then◌, Silent, tally}
use Rattle.rules.proofs.Ahead.{Ahead, checkpoints, up_to_send, up_to_issue}
use Rattle.rules.proofs.Good.{state_of, Trailing, Coming, Link, trailing, coming, Backed, Good, backed, alone, late}
use Rattle.rules.proofs.Links.{coming_no_checkpoint}
use Rattle.rules.proofs.Replays.{replay_on, replay_none}
use Rattle.rules.proofs.Backups.{called-backup, not-called, counts_it, counted-kept, syncs, synced_state, synced-kept}
use Rattle.rules.proofs.GoodMoves.{sent-fits}

-- the reference machine went on silently to mid
pub record Stepped (t : Table) (p : ℕ) (m mid : Machine) : Type 0 where
  pub acts : List Act
  pub to_mid : Run (code_of t p) m acts mid
  pub silent_there : Silent acts

-- a message of the process is transmitted: the reference machine goes on to right after its send
pub record Transmitted (t : Table) (p : ℕ) (items : List Item) (mail : Mail) (pc : ℕ) (x : Process) (m : Machine) : Type 0 where
  pub mid : Machine
  pub last : Machine
  pub steps : Stepped t p m mid
  pub sends_it : Steps (code_of t p) mid (sent mail) last
  pub from_there : mid.pc ≡ pc
  pub good : Good t p items x last

-- its checkpoint is transmitted: the reference machine goes on to the snapshot
pub record Synced (t : Table) (p : ℕ) (items : List Item) (x : Process) (m : Machine) : Type 0 where
  pub mid : Machine
  pub steps : Stepped t p m mid
  pub good : Good t p items x mid

module _ {t : Table} (ok : Accepted t) {p : ℕ} (hp : p < length t.processes) where
  -- ---- a word

  -- a complete backup counts it
  counts_trailing : {items : List Item} {x : Process} {m : Machine} (mail : Mail) (pc : ℕ) (h : Backed t p (message mail pc ∷ items) x m)
      → Trailing t p h.standby (message mail pc ∷ items) m h.since x.machine → Transmitted t p items mail pc (counts x) m
  unfolding counts
  counts_trailing mail pc h l =
      let v = up_to_send l.ahead in
      let r : Replica = h.standby.replica in
      record {
        mid = v.mid;
        last = v.last;
        steps = record { acts = v.acts; to_mid = v.to_mid; silent_there = v.silent_there };
        sends_it = v.sends_it;
        from_there = v.from_there;
        good = backed record {
          standby = record { board = h.standby.board; replica = counted r; complete = h.standby.complete };
          is-standby = called-backup count h.is-standby l.complete (counts_it t ok p hp r h.kept (sent-fits ok h));
          kept = counted-kept t ok p hp r h.kept (sent-fits ok h);
          no_suppress = h.no_suppress;
          since = h.since;
          link = trailing record {
            complete = l.complete;
            before = l.before ++ (v.acts ++ (sent mail ∷ []));
            replay = (unfold state_of in replay_on l.replay v.to_mid v.silent_there v.sends_it);
            ahead = v.rest;
            one = l.one;
          };
          is-since = h.is-since;
          few = h.few;
        };
      }

  -- one that is being made doesn't: the word was queued before its state
  counts_coming : {items : List Item} {x : Process} {m : Machine} (mail : Mail) (pc : ℕ) (h : Backed t p (message mail pc ∷ items) x m)
      → Coming t p h.standby (message mail pc ∷ items) m h.since x.machine → Transmitted t p items mail pc (counts x) m
  unfolding counts
  counts_coming {items} {x} {m} mail pc h l = go l.old l.is_items l.to_snapshot l.none_else
    where
      go : (old : List Item) → message mail pc ∷ items ≡ old ++ (transfer p ∷ l.new)
          → Ahead t p l.before m old l.until (state_of t p h.standby.replica)
          → checkpoints old + checkpoints l.new ≡ 0 → Transmitted t p items mail pc (counts x) m
      go [] e a n = absurd (no_way (cc))
      go (y ∷ old) e a n =
          let same : y ≡ message mail pc = cc in
          let rest : items ≡ old ++ (transfer p ∷ l.new) = cc in
          let v = up_to_send (subst (λ (i : Item). Ahead t p l.before m (i ∷ old) l.until (state_of t p h.standby.replica)) same a) in
          record {
            mid = v.mid;
            last = v.last;
            steps = record { acts = v.acts; to_mid = v.to_mid; silent_there = v.silent_there };
            sends_it = v.sends_it;
            from_there = v.from_there;
            good = backed record {
              standby = h.standby;
              is-standby = not-called count h.is-standby l.incomplete;
              kept = h.kept;
              no_suppress = h.no_suppress;
              since = h.since;
              link = coming record {
                incomplete = l.incomplete;
                uncounted = l.uncounted;
                old = old;
                new = l.new;
                is_items = rest;
                before = l.before ++ (v.acts ++ (sent mail ∷ []));
                until = l.until;
                to_snapshot = v.rest;
                ahead = l.ahead;
                none_else = subst (λ (i : Item). checkpoints (i ∷ old) + checkpoints l.new ≡ 0) same n;
              };
              is-since = h.is-since;
              few = h.few;
            };
          }

  pub good_counts : {items : List Item} {x : Process} {m : Machine} (mail : Mail) (pc : ℕ) → Good t p (message mail pc ∷ items) x m
      → Transmitted t p items mail pc (counts x) m
  unfolding counts
  good_counts {items} {x} {m} mail pc (backed h) = go h.link
    where
      go : Link t p h.standby (message mail pc ∷ items) m h.since x.machine → Transmitted t p items mail pc (counts x) m
      go (trailing l) = counts_trailing mail pc h l
      go (coming l) = counts_coming mail pc h l
  good_counts mail pc (alone h) =
      let v = up_to_send h.ahead in
      record {
        mid = v.mid;
        last = v.last;
        steps = record { acts = v.acts; to_mid = v.to_mid; silent_there = v.silent_there };
        sends_it = v.sends_it;
        from_there = v.from_there;
        good = alone record {
          no_standby = rw h.no_standby;
          no_suppress = h.no_suppress;
          before = h.before ++ (v.acts ++ (sent mail ∷ []));
          since = h.since;
          ahead = v.rest;
          one = h.one;
          low = h.low;
        };
      }
  good_counts mail pc (late h) = absurd (no_way (let e = h.no_items in cc))

  -- ---- a checkpoint

  keeps_trailing : {items : List Item} {x : Process} {m : Machine} (s : Checkpoint) (h : Backed t p (checkpoint p s ∷ items) x m)
      → Trailing t p h.standby (checkpoint p s ∷ items) m h.since x.machine → Synced t p items (keeps s x) m
  unfolding keeps
  keeps_trailing s h l =
      let v = up_to_issue l.ahead in
      let r : Replica = h.standby.replica in
      let ran = l.replay.ran then v.to_mid in
      let is : s ≡ record { pc = v.mid.pc; registers = v.mid.registers; taken = tally t p (l.before ++ v.acts) } = (let e = v.is-snapshot in cc) in
      let is-pc = ap (λ (c : Checkpoint). c.pc) is in
      let is-registers = ap (λ (c : Checkpoint). c.registers) is in
      let is-taken = ap (λ (c : Checkpoint). c.taken) is in
      record {
        mid = v.mid;
        steps = record { acts = v.acts; to_mid = v.to_mid; silent_there = v.silent_there };
        good = backed record {
          standby = record { board = h.standby.board; replica = synced r s; complete = h.standby.complete };
          is-standby = called-backup (λ c. sync c s) h.is-standby l.complete (syncs t ok p hp r h.kept (sent-fits ok h) ran s is-pc is-registers is-taken);
          kept = synced-kept t ok p hp r h.kept (sent-fits ok h) ran s is-pc is-registers is-taken;
          no_suppress = h.no_suppress;
          since = h.since;
          link = trailing record {
            complete = l.complete;
            before = [];
            replay = replay_none (synced_state t ok p hp r h.kept (sent-fits ok h) ran s is-pc is-registers is-taken);
            ahead = v.rest;
            one = (let o = l.one in omega arith);
          };
          is-since = h.is-since;
          few = h.few;
        };
      }

  pub good_keeps : {items : List Item} {x : Process} {m : Machine} (s : Checkpoint) → Good t p (checkpoint p s ∷ items) x m
      → Synced t p items (keeps s x) m
  unfolding keeps
  good_keeps {items} {x} {m} s (backed h) = go h.link
    where
      go : Link t p h.standby (checkpoint p s ∷ items) m h.since x.machine → Synced t p items (keeps s x) m
      go (trailing l) = keeps_trailing s h l
      go (coming l) = absurd (coming_no_checkpoint l)
  good_keeps s (alone h) =
      let v = up_to_issue h.ahead in
      record {
        mid = v.mid;
        steps = record { acts = v.acts; to_mid = v.to_mid; silent_there = v.silent_there };
        good = alone record {
          no_standby = rw h.no_standby;
          no_suppress = h.no_suppress;
          before = [];
          since = h.since;
          ahead = v.rest;
          one = (let o = h.one in omega arith);
          low = h.low;
        };
      }
  good_keeps s (late h) = absurd (no_way (let e = h.no_items in cc))
