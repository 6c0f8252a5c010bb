-- A command keeps the room, where the cabinet has the invariant.
use mathlib.Core.Path.{◌≡◌, ap, ◌∙◌, subst}
use mathlib.Core.Bool.{false}
use mathlib.Core.Option.{some}
use mathlib.Core.List.{[], map}
use Prim.Native.Nat.{ℕ, ◌+◌, ◌≤◌, ◌<◌}
use native.Mathlib.Omega.{arith}
use lib.Dec.{ltb}
use lib.ListN.{length}
use borrow.Author.Tests.{ltb-false}
use Rattle.facts.specs.Tests.{none_below}
use Rattle.backup.specs.Limits.{sent_most}
use Rattle.backup.specs.Replica.{Replica}
use Rattle.rules.specs.Table.{Table, environment, channel_at, inputs, port_of, channel_on}
use Rattle.rules.specs.Machine.{Machine, internal, took, sent}
use Rattle.rules.specs.Reference.{Reference}
use Rattle.rules.specs.Cabinet.{occupancy_most, Standby, Cabinet, process_at, unread_on, in_flight, occupancy, crowded}
use Rattle.rules.specs.Moves.{Command, promoted, turn}
use Rattle.rules.specs.Judge.{Accepted}
use Rattle.rules.proofs.Runs.{takes, takes_busy}
use Rattle.rules.proofs.Tables.{limit_high, input}
use Rattle.rules.proofs.Good.{mail_of, state_of, good_span, good_small, good_kept}
use Rattle.rules.proofs.Backups.{recovers}
use Rattle.rules.proofs.Invariant.{Invariant}
use Rattle.rules.proofs.Guards.{fed_mail, after_turn}
use Rattle.rules.proofs.Inputs.{log_own}
use Rattle.rules.proofs.Counting.{run-unread}
use Rattle.rules.proofs.Room.{Room}
use Rattle.rules.proofs.Keep.{Behind, stays, sent-room, issued-room, word_room, sync-room, transfer-room, fed-room, crash-room, rejoin-room, rebackup-room}

module _ (t : Table) (ok : Accepted t) (c : Cabinet) (s : Reference) (inv : Invariant t c s) where
  behind : (p : ℕ) → p < length c.processes → (b : Standby) → (process_at c p).standby ≡ some b → Behind t (process_at c p) p b
  unfolding promoted state_of
  behind p hp b e =
      let r : Replica = b.replica in
      let v = good_span (inv.good p hp) e in
      let kept = good_kept (inv.good p hp) e in
      let few : r.sent < sent_most = (let a = (good_small (inv.good p hp) e).few-sent in let b = limit_high t ok p in omega arith) in
      let same : (promoted t p b).machine ≡ state_of t p r = recovers t ok p (rw inv.all_processes at hp) r kept few in
      let same-mail : (k : ℕ) → unread_on k (promoted t p b).machine.mailbox ≡ unread_on k (map (mail_of t p) r.log) =
      λ k. ap (λ (m : Machine). unread_on k m.mailbox) same in
      record {
        received = takes v.acts;
        few = (let a = takes_busy v.acts in let d = v.events in omega arith);
        words = λ k. same-mail k ∙ run-unread k v.ran;
        own = λ k n. same-mail k ∙ log_own t p kept.on_inputs k n;
      }

  uncrowded : (p : ℕ) → p < length t.processes → crowded t c p ≡ false → (k : ℕ) → (channel_at t k).reader ≡ p
      → unread_on k (process_at c p).machine.mailbox + in_flight k c.outboxes ≤ occupancy_most
  unfolding crowded occupancy
  uncrowded p hp h k reads =
      let s = input t ok k p hp reads in
      let a : occupancy t c k ≤ occupancy_most =
      subst (λ (i : ℕ). occupancy t c i ≤ occupancy_most) s.back
      (ltb-false _ _ (none_below (λ i. ltb occupancy_most (occupancy t c (channel_on t p i))) (length (inputs t p)) h (port_of t p k) s.below)) in
      subst (λ (i : ℕ). unread_on k (process_at c i).machine.mailbox + in_flight k c.outboxes ≤ occupancy_most) reads a

  pub turn-room : Room t [] c → (r : Command) → Room t [] (turn t c r).cabinet
  turn-room rm r =
      let small : length c.processes ≤ environment = (let a = inv.all_processes in let b = ok.processes_high in omega arith) in
      after_turn {P = Room t []} t c r rm
      (record {
        computes = λ _ m e _. stays t c small rm r.a m internal e _ _;
        takes = λ _ m mail e _. stays t c small rm r.a m (took mail) e _ _;
        suppresses = λ _ m mail e h _. stays t c small rm r.a m (sent mail) e _ h;
        sends = λ _ m mail e _ _ _ free. sent-room t c small rm r.a m mail e free _;
        issues = λ _ _ _ _. issued-room t c small rm r.a;
        transmits = λ _ _ mail pc rest e. word_room t c small rm r.a mail pc rest e;
        syncs = λ _ _ p k rest e. sync-room t c small rm r.a p k rest e;
        injects = λ _ _ free. fed-room t c small rm (fed_mail r) free;
        completes = λ _ _ p rest e. transfer-room t c small rm r.a p rest e;
        crashes = λ _ _ _. crash-room t c rm behind r.a;
        rejoins = λ _ _. rejoin-room t c small rm r.a;
        rebackups = λ h _ _ _ free _ _. rebackup-room t c small rm r.a (uncrowded r.a h free);
      })
