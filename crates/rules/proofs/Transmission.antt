-- Transmission and feeds, followed by the reference machine: the steps that lead up to the item, or the same feed.
use mathlib.Core.Path.{◌≡◌, refl, ap, sym, ◌∙◌, subst}
use mathlib.Core.Bool.{Bool, true, false, cond}
use mathlib.Core.Option.{Option, none, some}
use mathlib.Core.List.{List, [], ◌∷◌, ◌++◌, append-nil}
use Prim.Native.Nat.{ℕ, zero, suc, ◌<◌}
use lib.ListN.{length, get_or, set, length-set}
use lib.Seq.{get_or-set_same, get_or-set_other}
use borrow.Author.Tests.{eq-eqb, lt-ltb}
use Rattle.facts.specs.Tests.{no_way, by_eq}
use Rattle.backup.specs.Limits.{log_most}
use Rattle.backup.specs.Replica.{Replica, Checkpoint, answer, counted, count_number, count, sync}
use Rattle.rules.specs.Table.{Table, environment, channel_at, code_of}
use Rattle.rules.specs.Machine.{Mail, sent_from, from_outside, Machine, sent}
use Rattle.rules.specs.Reference.{Reference, Action, posted, with_machine, act, injections}
use Rattle.rules.specs.Cabinet.{Standby, Process, Item, message, checkpoint, transfer, is_complete, Cabinet, nobody, process_at, outbox_at, full}
use Rattle.rules.specs.Moves.{with_process, with_outbox, on_replica, on_backup, counts, keeps, end_transfer, deliver}
use Rattle.rules.specs.Judge.{Accepted}
use Rattle.rules.proofs.Steps.{Steps}
use Rattle.rules.proofs.Good.{Good}
use Rattle.rules.proofs.Carried.{Transmitted, Synced, good_counts, good_keeps}
use Rattle.rules.proofs.Transfers.{good_end_transfer}
use Rattle.rules.proofs.Invariant.{owner_of, mine, machine_at, Seated, Invariant, in_table, in_reference, its_outbox, RoomFor, Roomy, owner}
use Rattle.rules.proofs.Frame.{SameSeat, called-backup-board, completed-board, seated-same, OthersStay, change, change_same, deliver-keeps, leave_others, leave_own}
use Rattle.rules.proofs.References.{run_append, run_one, injections_append, steps, injections-steps, act-sent, put_put, put_get, put_length, run_silent}
use Rattle.rules.proofs.Follow.{Follows}

-- a count leaves the log, so that the room stays
count-log : (r : Replica) → (count r).replica.log ≡ r.log
unfolding count
count-log r = go (count_number r)
  where
    go : (n : ℕ) → (answer n r (counted r)).replica.log ≡ r.log
    go zero = refl
    go (suc n) = refl

counted-room : (o : Option Standby) → ((s : Standby) → o ≡ some s → length s.replica.log < log_most)
    → (s : Standby) → on_backup count o ≡ some s → length s.replica.log < log_most
counted-room o h s = go (is_complete o)
  where
    after : (o : Option Standby) → ((s : Standby) → o ≡ some s → length s.replica.log < log_most) → on_replica count o ≡ some s → length s.replica.log < log_most
    after none h e = absurd (no_way (cc))
    after (some r) h e =
        let same : record { board = r.board; replica = (count r.replica).replica; complete = r.complete } ≡ s = cc in
        subst (λ (k : Standby). length k.replica.log < log_most) same (rw (count-log r.replica) (h r refl))

    go : (b : Bool) → cond b (on_replica count o) o ≡ some s → length s.replica.log < log_most
    go true e = after o h e
    go false e = h s e

-- the process that sends on a word's channel
abbrev sender_of : Table → Mail → ℕ
sender_of t mail = (channel_at t mail.channel).sender

room_left : (t : Table) (c : Cabinet) (k p b : ℕ) (rest : List Item) → p < length c.processes → RoomFor t c k
    → RoomFor t (with_process p (counts (process_at c p)) (with_outbox b rest c)) k
unfolding counts
room_left t c k p b rest hp room s =
    let r : ℕ = (channel_at t k).reader in
    by_eq r p
    (λ e. subst (λ (y : Process). y.standby ≡ some s → length s.replica.log < log_most)
    (sym (ap (λ (i : ℕ). get_or (set c.processes p (counts (process_at c p))) i nobody) e ∙ get_or-set_same c.processes p (counts (process_at c p)) nobody hp))
    (counted-room (process_at c p).standby (subst (λ (i : ℕ). (s : Standby) → (process_at c i).standby ≡ some s → length s.replica.log < log_most) e room) s))
    (λ n. subst (λ (y : Process). y.standby ≡ some s → length s.replica.log < log_most)
    (sym (get_or-set_other c.processes p r (counts (process_at c p)) nobody n)) (room s))

module _ {t : Table} (ok : Accepted t) {c : Cabinet} {s : Reference} (inv : Invariant t c s) (p : ℕ) (hp : p < length c.processes) where
  module _ (item : Item) (is-own : owner_of t item ≡ p) (rest : List Item) (oldest : outbox_at c (process_at c p).board ≡ item ∷ rest) where
    others : OthersStay t p (set c.outboxes (process_at c p).board rest) c
    others b j n = leave_others t c.outboxes (process_at c p).board (its_outbox inv hp) item rest oldest b j (λ e f. n (e ∙ is-own) f)

    items : mine t p (outbox_at c (process_at c p).board) ≡ item ∷ mine t p (get_or (set c.outboxes (process_at c p).board rest) (process_at c p).board [])
    items =
        subst (λ (o : ℕ). mine t o (outbox_at c (process_at c p).board) ≡ item ∷ mine t o (get_or (set c.outboxes (process_at c p).board rest) (process_at c p).board []))
        is-own (leave_own t c.outboxes (process_at c p).board (its_outbox inv hp) item rest oldest)

  -- ---- a word

  follow_word : (mail : Mail) (pc : ℕ) (rest : List Item) → sender_of t mail ≡ p → outbox_at c (process_at c p).board ≡ message mail pc ∷ rest
      → RoomFor t c mail.channel
      → Transmitted t p (mine t p (get_or (set c.outboxes (process_at c p).board rest) (process_at c p).board [])) mail pc
      (counts (process_at c p)) (machine_at s p)
      → Follows t (deliver t mail (with_process p (counts (process_at c p)) (with_outbox (process_at c p).board rest c))) s
      (sent_from p pc mail ∷ []) []
  unfolding counts posted with_machine injections
  follow_word mail pc rest is-own oldest room v =
      let B : ℕ = (process_at c p).board in
      let mid : Reference = with_machine p v.mid s in
      let end : Reference = posted t (sent_from p pc mail) (with_machine p v.last s) in
      let up-to-mid = run_silent t p v.steps.to_mid refl v.steps.silent_there s (in_reference inv hp) refl in
      let sends_it : Steps (code_of t p) (machine_at mid p) (sent mail) v.last =
      subst (λ (m : Machine). Steps (code_of t p) m (sent mail) v.last) (sym (put_get p v.mid s (in_reference inv hp))) v.sends_it in
      let acts = act-sent t mid p (subst (λ (n : ℕ). p < n) (sym (put_length p v.mid s)) (in_reference inv hp)) sends_it in
      let from_there : (machine_at mid p).pc ≡ pc =
      ap (λ (m : Machine). m.pc) (put_get p v.mid s (in_reference inv hp)) ∙ v.from_there in
      record {
        actions = steps p v.steps.acts ++ (Action.step p ∷ []);
        end = end;
        ran = run_append t s (steps p v.steps.acts) (Action.step p ∷ []) mid up-to-mid
            ∙ run_one t mid (Action.step p) end
            (acts ∙ ap (λ (n : ℕ). some (posted t (sent_from p n mail) (with_machine p v.last mid))) from_there
            ∙ ap (λ (z : Reference). some (posted t (sent_from p pc mail) z)) (put_put p v.mid s v.last));
        invariant = deliver-keeps (sent_from p pc mail) ok
            (change_same inv p hp (counts (process_at c p)) (record { board = refl; standby = called-backup-board count (process_at c p).standby }) v.last
            (set c.outboxes B rest) (others (message mail pc) is-own rest oldest) v.good s.trace (length-set c.outboxes B rest))
            (room_left t c mail.channel p B rest hp room);
        traced = refl;
        injected = injections_append (steps p v.steps.acts) (Action.step p ∷ []) ∙ ap (λ (l : List Mail). l ++ []) (injections-steps p v.steps.acts);
      }

  -- ---- an item that leads the reference machine silently to where the process's backup then stands

  follow_synced : (item : Item) → owner_of t item ≡ p → (y : Process) → y.board ≡ (process_at c p).board → Seated t c.dead y
      → (rest : List Item) → outbox_at c (process_at c p).board ≡ item ∷ rest
      → Synced t p (mine t p (get_or (set c.outboxes (process_at c p).board rest) (process_at c p).board [])) y (machine_at s p)
      → Follows t (with_process p y (with_outbox (process_at c p).board rest c)) s [] []
  unfolding with_machine
  follow_synced item is-own y same-board sits rest oldest v =
      let B : ℕ = (process_at c p).board in
      record {
        actions = steps p v.steps.acts;
        end = with_machine p v.mid s;
        ran = run_silent t p v.steps.to_mid refl v.steps.silent_there s (in_reference inv hp) refl;
        invariant = change inv p hp y same-board sits v.mid (set c.outboxes B rest) (others item is-own rest oldest) v.good s.trace
            (length-set c.outboxes B rest);
        traced = sym (append-nil s.trace);
        injected = injections-steps p v.steps.acts;
      }

  -- a checkpoint is one
  follow_checkpoint : (k : Checkpoint) (rest : List Item) → outbox_at c (process_at c p).board ≡ checkpoint p k ∷ rest
      → Synced t p (mine t p (get_or (set c.outboxes (process_at c p).board rest) (process_at c p).board [])) (keeps k (process_at c p)) (machine_at s p)
      → Follows t (with_process p (keeps k (process_at c p)) (with_outbox (process_at c p).board rest c)) s [] []
  unfolding keeps
  follow_checkpoint k rest oldest v =
      let seat : SameSeat (keeps k (process_at c p)) (process_at c p) = record { board = refl; standby = called-backup-board (λ r. sync r k) (process_at c p).standby } in
      follow_synced (checkpoint p k) refl (keeps k (process_at c p)) refl (seated-same seat (inv.seated p hp)) rest oldest v

  -- a transfer is one
  follow_completed : (rest : List Item) → outbox_at c (process_at c p).board ≡ transfer p ∷ rest
      → Synced t p (mine t p (get_or (set c.outboxes (process_at c p).board rest) (process_at c p).board [])) (end_transfer (process_at c p)) (machine_at s p)
      → Follows t (with_process p (end_transfer (process_at c p)) (with_outbox (process_at c p).board rest c)) s [] []
  unfolding end_transfer
  follow_completed rest oldest v =
      let seat : SameSeat (end_transfer (process_at c p)) (process_at c p) = record { board = refl; standby = completed-board (process_at c p).standby } in
      follow_synced (transfer p) refl (end_transfer (process_at c p)) refl (seated-same seat (inv.seated p hp)) rest oldest v

  -- ---- each, from the board that p runs on

  transmits-word : (b : ℕ) (mail : Mail) (pc : ℕ) (rest : List Item) → (process_at c p).board ≡ b → sender_of t mail ≡ p
      → outbox_at c b ≡ message mail pc ∷ rest → RoomFor t c mail.channel
      → Follows t (deliver t mail (with_process p (counts (process_at c p)) (with_outbox b rest c))) s (sent_from p pc mail ∷ []) []
  transmits-word b mail pc rest runs is-own =
      subst (λ (B : ℕ). outbox_at c B ≡ message mail pc ∷ rest → RoomFor t c mail.channel
      → Follows t (deliver t mail (with_process p (counts (process_at c p)) (with_outbox B rest c))) s (sent_from p pc mail ∷ []) []) runs
      (λ oldest room. follow_word mail pc rest is-own oldest room (good_counts ok (in_table inv hp) mail pc
      (subst (λ (l : List Item). Good t p l (process_at c p) (machine_at s p)) (items (message mail pc) is-own rest oldest) (inv.good p hp))))

  transmits-checkpoint : (b : ℕ) (k : Checkpoint) (rest : List Item) → (process_at c p).board ≡ b → outbox_at c b ≡ checkpoint p k ∷ rest
      → Follows t (with_process p (keeps k (process_at c p)) (with_outbox b rest c)) s [] []
  transmits-checkpoint b k rest runs =
      subst (λ (B : ℕ). outbox_at c B ≡ checkpoint p k ∷ rest → Follows t (with_process p (keeps k (process_at c p)) (with_outbox B rest c)) s [] []) runs
      (λ oldest. follow_checkpoint k rest oldest (good_keeps ok (in_table inv hp) k
      (subst (λ (l : List Item). Good t p l (process_at c p) (machine_at s p)) (items (checkpoint p k) refl rest oldest) (inv.good p hp))))

  transmits-transfer : (b : ℕ) (rest : List Item) → (process_at c p).board ≡ b → outbox_at c b ≡ transfer p ∷ rest
      → Follows t (with_process p (end_transfer (process_at c p)) (with_outbox b rest c)) s [] []
  transmits-transfer b rest runs =
      subst (λ (B : ℕ). outbox_at c B ≡ transfer p ∷ rest → Follows t (with_process p (end_transfer (process_at c p)) (with_outbox B rest c)) s [] []) runs
      (λ oldest. follow_completed rest oldest (good_end_transfer
      (subst (λ (l : List Item). Good t p l (process_at c p) (machine_at s p)) (items (transfer p) refl rest oldest) (inv.good p hp))))

module _ {t : Table} (ok : Accepted t) {c : Cabinet} {s : Reference} (inv : Invariant t c s) where
  pub follow_transmit : Roomy t c → (b : ℕ) (mail : Mail) (pc : ℕ) (rest : List Item) → outbox_at c b ≡ message mail pc ∷ rest
      → Follows t (deliver t mail (with_process (sender_of t mail) (counts (process_at c (sender_of t mail))) (with_outbox b rest c))) s
      (sent_from (sender_of t mail) pc mail ∷ []) []
  follow_transmit roomy b mail pc rest oldest =
      let o = owner t c s b (message mail pc) rest inv oldest in
      transmits-word ok inv (sender_of t mail) o.there b mail pc rest o.runs refl oldest (roomy.for_oldest b mail pc rest oldest)

  pub follow_sync : (b p : ℕ) (k : Checkpoint) (rest : List Item) → outbox_at c b ≡ checkpoint p k ∷ rest
      → Follows t (with_process p (keeps k (process_at c p)) (with_outbox b rest c)) s [] []
  follow_sync b p k rest oldest =
      let o = owner t c s b (checkpoint p k) rest inv oldest in
      transmits-checkpoint ok inv p o.there b k rest o.runs oldest

  pub follow_transfer : (b p : ℕ) (rest : List Item) → outbox_at c b ≡ transfer p ∷ rest
      → Follows t (with_process p (end_transfer (process_at c p)) (with_outbox b rest c)) s [] []
  follow_transfer b p rest oldest =
      let o = owner t c s b (transfer p) rest inv oldest in
      transmits-transfer ok inv p o.there b rest o.runs oldest

  -- ---- feed

  pub follow_inject : Roomy t c → (mail : Mail) → mail.channel < length t.channels → sender_of t mail ≡ environment → full t c mail.channel ≡ false
      → Follows t (deliver t mail c) s (from_outside mail ∷ []) (mail ∷ [])
  unfolding act posted injections
  follow_inject roomy mail h outside free =
      record {
        actions = Action.inject mail ∷ [];
        end = posted t (from_outside mail) s;
        ran = run_one t s (Action.inject mail) (posted t (from_outside mail) s)
            (rw (lt-ltb mail.channel (length t.channels) h, eq-eqb (sender_of t mail) environment outside));
        invariant = deliver-keeps (from_outside mail) ok inv (roomy.for_feed mail.channel outside free);
        traced = refl;
        injected = refl;
      }
