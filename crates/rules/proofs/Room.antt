-- Room: how many words of its channels a process has unread or in flight, and that changing one process and the outboxes keeps it.
use mathlib.Core.Logic.{◌≢◌}
use mathlib.Core.Path.{◌≡◌, refl, ap, sym, ◌∙◌, subst}
use mathlib.Core.Bool.{Bool, true, false, cond}
use mathlib.Core.Option.{Option, none, some}
use mathlib.Core.List.{List, [], ◌∷◌, ◌++◌}
use Prim.Native.Nat.{ℕ, ◌+◌, ◌*◌, ◌≤◌, ◌<◌}
use native.Mathlib.Omega.{arith}
use lib.ListN.{length, set, length-set}
use lib.Seq.{get_or-set_same, get_or-set_other}
use borrow.Author.Tests.{ne_eqb, leb-false}
use Rattle.facts.specs.Tests.{by_eq}
use Rattle.facts.specs.Counts.{same, occurs, same_yes, same_no}
use Rattle.backup.specs.Replica.{Replica, Reply, arrive}
use Rattle.rules.specs.Table.{Table, environment, channel_at, limit_of, port_of}
use Rattle.rules.specs.Machine.{Mail, delivered}
use Rattle.rules.specs.Cabinet.{occupancy_most, Standby, Process, Item, Cabinet, nobody, process_at, limited, is_some, is_complete, unread_on, in_flight, occupancy, full}
use Rattle.rules.specs.Moves.{on_replica, on_backup, completed, receive, deliver}
use Rattle.rules.proofs.Counting.{unread_append}

-- ---- what holds of each process

-- `pending`: the channels of words that are admitted and neither unread nor in flight, in the middle of a move
pub record Roomed (t : Table) (pending : List ℕ) (c : Cabinet) (p : ℕ) : Type 0 where
  -- the channels of words that it had received before a crash and then had again; none while it is limited
  pub again : List ℕ
  pub few : length again ≤ 2 * limit_of t p
  pub none_yet : limited (process_at c p) ≡ true → again ≡ []
  pub room : (k : ℕ) → (channel_at t k).reader ≡ p
      → unread_on k (process_at c p).machine.mailbox + in_flight k c.outboxes + occurs k pending ≤ occupancy_most + occurs k again
  -- it holds words of its own channels only
  pub own : (k : ℕ) → (channel_at t k).reader ≢ p → unread_on k (process_at c p).machine.mailbox ≡ 0

abbrev pub Room : Table → List ℕ → Cabinet → Type 0
Room t pending c = (p : ℕ) → p < length c.processes → Roomed t pending c p

-- ---- one process and the outboxes change, and no other process's channel has more words than before

module _ (t : Table) (pending pending' : List ℕ) (c : Cabinet) (rm : Room t pending c) (p : ℕ) (x : Process) (qs : List (List Item))
    (elsewhere : (k : ℕ) → in_flight k qs + occurs k pending' ≤ in_flight k c.outboxes + occurs k pending) where
  now : Cabinet
  now = record { processes = set c.processes p x; outboxes = qs; dead = c.dead }

  at_other : (j : ℕ) → j < length c.processes → j ≢ p → Roomed t pending' now j
  unfolding now
  at_other j hj n =
      let e = get_or-set_other c.processes p j x nobody n in
      let r = rm j hj in
      record {
        again = r.again;
        few = r.few;
        none_yet = λ g. r.none_yet (ap limited (sym e) ∙ g);
        room = λ k g. rw e (let a = r.room k g in let b = elsewhere k in omega arith);
        own = λ k g. rw e (r.own k g);
      }

  -- where its own room is known
  pub change_by : (p < length c.processes → Roomed t pending' (record { processes = set c.processes p x; outboxes = qs; dead = c.dead }) p)
      → Room t pending' (record { processes = set c.processes p x; outboxes = qs; dead = c.dead })
  unfolding now
  change_by at_p j hj = by_eq j p (λ e. rw e (at_p (rw e at (rw length-set at hj)))) (λ n. at_other j (rw length-set at hj) n)

  -- where no channel of its own has more words either
  module _ (kind : limited x ≡ true → limited (process_at c p) ≡ true)
      (there : (k : ℕ) → unread_on k x.machine.mailbox + in_flight k qs + occurs k pending'
      ≤ unread_on k (process_at c p).machine.mailbox + in_flight k c.outboxes + occurs k pending)
      (own_x : p < length c.processes → (k : ℕ) → (channel_at t k).reader ≢ p → unread_on k x.machine.mailbox ≡ 0) where
    pub change_room : Room t pending' (record { processes = set c.processes p x; outboxes = qs; dead = c.dead })
    change_room =
        change_by λ hp.
        let e = get_or-set_same c.processes p x nobody hp in
        let r = rm p hp in
        record {
          again = r.again;
          few = r.few;
          none_yet = λ g. r.none_yet (kind (ap limited (sym e) ∙ g));
          room = λ k g. rw e (let a = r.room k g in let b = there k in omega arith);
          own = λ k g. rw e (own_x hp k g);
        }

-- ---- a channel that isn't full has room for one more

not_full : (t : Table) (c : Cabinet) (k : ℕ) → full t c k ≡ false → (channel_at t k).reader ≢ environment
    → unread_on k (process_at c (channel_at t k).reader).machine.mailbox + in_flight k c.outboxes < occupancy_most
unfolding full occupancy
not_full t c k h n = leb-false occupancy_most _ (rw (ne_eqb (channel_at t k).reader environment n) at h)

pub admit : (t : Table) (c : Cabinet) (k : ℕ) → length c.processes ≤ environment → full t c k ≡ false → Room t [] c → Room t (k ∷ []) c
admit t c k small h rm p hp =
    let r = rm p hp in
    record {
      again = r.again;
      few = r.few;
      none_yet = r.none_yet;
      own = r.own;
      room = λ i g.
          by_eq i k
          (λ e. let reads : (channel_at t k).reader ≡ p = ap (λ (y : ℕ). (channel_at t y).reader) (sym e) ∙ g in
          let free : unread_on i (process_at c p).machine.mailbox + in_flight i c.outboxes < occupancy_most =
          subst (λ (q : ℕ). unread_on i (process_at c q).machine.mailbox + in_flight i c.outboxes < occupancy_most) reads
          (rw e (not_full t c k h (λ f. absurd (omega arith)))) in
          let one = same_yes i k e in
          omega arith)
          (λ n. let a = r.room i g in let none_of = same_no i k n in omega arith);
    }

-- ---- a word arrives

pub call_some : (f : Replica → Reply) (o : Option Standby) → is_some (on_replica f o) ≡ is_some o
call_some f none = refl
call_some f (some s) = refl

pub backup-some : (f : Replica → Reply) (o : Option Standby) → is_some (on_backup f o) ≡ is_some o
backup-some f o = go (is_complete o)
  where
    go : (b : Bool) → is_some (cond b (on_replica f o) o) ≡ is_some o
    go true = call_some f o
    go false = refl

pub completed-some : (o : Option Standby) → is_some (completed o) ≡ is_some o
completed-some none = refl
completed-some (some s) = refl

pub deliver-room : (t : Table) (c : Cabinet) (mail : Mail) → Room t (mail.channel ∷ []) c → Room t [] (deliver t mail c)
unfolding deliver receive delivered
deliver-room t c mail rm =
    let r : ℕ = (channel_at t mail.channel).reader in
    let x : Process = process_at c r in
    let more : (k : ℕ) → unread_on k (x.machine.mailbox ++ (mail ∷ [])) ≡ unread_on k x.machine.mailbox + same k mail.channel =
    λ k. unread_append k x.machine.mailbox mail in
    change_room t (mail.channel ∷ []) [] c rm r (receive t r mail x) c.outboxes (λ k. omega arith)
    (λ h. sym (call_some (λ s. arrive s (port_of t r mail.channel) mail.word) x.standby) ∙ h)
    (λ k. let a = more k in omega arith)
    (λ hr k n. let a = more k in let b = (rm r hr).own k n in let d = same_no k mail.channel (λ e. n (ap (λ (y : ℕ). (channel_at t y).reader) e)) in omega arith)
