-- The carry of a checkpoint: its entry left the queue, its process's backup keeps it, and none of that process waits any more.
use Rattle.std.proofs.Common.{◌≡◌, ℕ, ◌<◌, Bool, true, false, cond, List, ◌∷◌, length, get_or, set, sym, refl, ap, ◌∙◌, subst, arith, get_or-set_same}
use Rattle.std.proofs.Math.Option.{Option, none, some}
use lib.Seq.{set_out}
use Rattle.facts.specs.Tests.{by_lt}
use Rattle.numbers.specs.Answers.{code_in, cause_in}
use Rattle.numbers.specs.declared.answers.Reason.{Reason}
use Rattle.numbers.specs.declared.answers.Reason.TheVariants.{SyncCarried, SyncUnbacked}
use Rattle.backup.specs.Replica.{Checkpoint, sync}
use Rattle.backup.specs.declared.place.Checkpoint as checkpoints
use Rattle.backup.specs.Place.{checkpoint_of}
use Rattle.process.specs.declared.process.Process as code
use Rattle.process.specs.Row.{backed, no_process}
use Rattle.process.specs.Change.{Became, Changes, Drops, BackupAlone}
use Rattle.process.proofs.Processes.{protected-is}
use Rattle.rules.specs.Table.{Table}
use Rattle.rules.specs.Cabinet as rules
use Rattle.rules.specs.Cabinet.{Process, Standby, Cabinet, process_at, outbox_at, is_complete, protected}
use Rattle.rules.specs.Moves.{Command, sync_kept, sync_lost, landed, dropped_from, numbers, numbered, on_backup, with_process, with_outbox, keeps, transmit_item}
use Rattle.state.specs.declared.entry.Entry.{Entry}
use Rattle.state.specs.declared.moved.Answer.{Answer}
use Rattle.state.specs.declared.store.Store.{Store}
use Rattle.state.specs.Store.{Holds, lists_at, process_in}
use Rattle.rules.specs.Reasons.{cause_of}
use Rattle.state.specs.Moved.{Reachable, Answered, answer_for}
use Rattle.state.proofs.Beside.{each_length, each_at}
use Rattle.state.proofs.Reading.{at_process}
use Rattle.state.proofs.Changing.{row_changed}
use Rattle.state.proofs.Flagging.{flagged, with_flag}
use Rattle.state.proofs.Owners.{checkpoint_owner}
use Rattle.state.proofs.Joining.{Waiter}
use Rattle.bus.specs.Parts.{other_mail, with_mails, Left}
use Rattle.bus.specs.Syncs.{Syncs}
use Rattle.bus.proofs.Own.{SyncsOwn}
use Rattle.bus.proofs.Leaving.{at_rest, only_rests, waiter_leaves}
use Rattle.bus.proofs.Besides.{stays_rest, each_rest, own_mails, as_left, as_then}

-- the answer's reason where the process has a backup, or none
abbrev sync_reason : Bool → Reason
sync_reason has = cond has SyncCarried SyncUnbacked

sync-waits : (p : ℕ) (k : Checkpoint) → Waiter p (rules.checkpoint p k)
sync-waits p k = record { its = λ q. refl; no_word = λ i. refl }

-- a backup that keeps a checkpoint is as complete as it was
still_protected : (k : Checkpoint) (x : Process) → protected (keeps k x) ≡ protected x
unfolding keeps
still_protected k x = go x.standby
  where
    by_flag : (s s' : Standby) (b : Bool) → s'.complete ≡ s.complete → is_complete (cond b (some s') (some s)) ≡ s.complete
    by_flag s s' true e = e
    by_flag s s' false e = refl

    go : (o : Option Standby) → is_complete (on_backup (λ r. sync r k) o) ≡ is_complete o
    go none = refl
    go (some s) = by_flag s (record { board = s.board; replica = (sync s.replica k).replica; complete = s.complete }) s.complete refl

module _ {t : Table} {s s₁ : Store} {entries : List Entry} {c : Cabinet} (reach : Reachable t c) (h : Holds t s entries c) (b : ℕ) (hb : b < t.boards)
    (gone : Left s b s₁) (p : ℕ) (k : Checkpoint) (rest : List rules.Item) (oldest : outbox_at c b ≡ rules.checkpoint p k ∷ rest) where
  its_process : p < length t.processes
  its_process = (checkpoint_owner reach b p k rest oldest).0

  module _ (x : code.Process) (became : Became (lists_at s p) x (keeps k)) where
    -- the store afterwards holds the rules' cabinet afterwards
    sync-holds : Holds t (at_rest s₁ p x) entries (with_process p (keeps k (process_at c p)) (with_outbox b rest c))
    unfolding keeps
    sync-holds =
        let first = row_changed h reach.accepted.processes_high p its_process x (keeps k) became refl refl in
        subst (λ (y : Store). Holds t (at_rest y p x) entries (with_process p (keeps k (process_at c p)) (with_outbox b rest c))) (sym gone.left-is)
        (waiter_leaves reach p (keeps k (process_at c p)) first b hb (rules.checkpoint p k) (sync-waits p k) rest oldest its_process
        (checkpoint_owner reach b p k rest oldest).1 gone.queue gone.popped)

    -- and so the move: 5 with what was dropped where the process is protected, 6 where not
    sync-answered : (dropped : ℕ) → Drops (lists_at s p) k dropped → (command : Command) (z : Bool) → backed x.protection ≡ z
        → Answered t (at_rest s₁ p x) entries c command (transmit_item t (with_outbox b rest c) (rules.checkpoint p k))
        (answer_for (sync_reason z) p (cond z dropped 0))
    unfolding transmit_item numbers cause_of
    sync-answered dropped drops command z e = record {
      answer-is =
          ap (λ (y : Process). numbers (landed p k y)) (at_process h p its_process)
          ∙ by_flag (protected (process_in s p)) z
          (sym (still_protected k (process_in s p)) ∙ sym (ap protected became.process-is) ∙ protected-is x ∙ e)
          (λ e. drops (h.kept p its_process) e);
      cause_is = no_cause (protected (process_at c p)) z (dropped_from k (process_at c p).standby);
      holds = sync-holds;
    }
      where
        by_flag : (y z : Bool) → y ≡ z → (y ≡ true → dropped ≡ dropped_from k (process_in s p).standby)
            → numbers (cond y (sync_kept p (dropped_from k (process_in s p).standby)) (sync_lost p)) ≡ numbered (code_in (sync_reason z)) p (cond z dropped 0)
        by_flag true z e f = rw (← e) (ap (numbered 5 p) (sym (f refl)))
        by_flag false z e f = rw (← e)

        no_cause : (y z : Bool) (n : ℕ) → cause_of (cond y (sync_kept p n) (sync_lost p)) ≡ cause_in (sync_reason z)
        no_cause true true n = refl
        no_cause true false n = refl
        no_cause false true n = refl
        no_cause false false n = refl

-- ---- what the call promises

-- that nothing waits changes no protection
protected_still : (processes : List code.Process) (p : ℕ)
    → (get_or (with_flag processes p 0) p no_process).protection ≡ (get_or processes p no_process).protection
protected_still processes p =
    let y : code.Process = flagged (get_or processes p no_process) 0 in
    by_lt p (length processes)
    (λ l. ap (λ (z : code.Process). z.protection) (get_or-set_same processes p y no_process l))
    (λ l. ap (λ (z : List code.Process). (get_or z p no_process).protection) (set_out processes p y l))

-- whether the process has a backup afterwards
abbrev shown : Store → ℕ → code.Process → Bool
shown s p x = backed (lists_at (at_rest s p x) p).protection

shown-is : (s : Store) (p : ℕ) (x : code.Process) → p < length s.processes → shown s p x ≡ backed x.protection
shown-is s p x there =
    ap backed (protected_still (set s.processes p x) p ∙ ap (λ (y : code.Process). y.protection) (get_or-set_same s.processes p x no_process there))

sync_done : (z : Bool) → code_in (sync_reason z) < 32
sync_done true = omega arith
sync_done false = omega arith

-- on the lent store itself, of any process that is as the rules' change makes it
module _ (s : Store) (process : ℕ) (checkpoint : checkpoints.Checkpoint) (p : ℕ) (is-p : process < 16 → p ≡ process) (x : code.Process)
    (became : Changes (lists_at s p) x (keeps (checkpoint_of checkpoint))) (dropped : ℕ)
    (drops : Drops (lists_at s p) (checkpoint_of checkpoint) dropped) where
  pub syncs_so : (z : Bool) → shown s p x ≡ z → SyncsOwn s process checkpoint (at_rest s p x) (answer_for (sync_reason z) process (cond z dropped 0))
  syncs_so z e = record {
    answered = λ t before entries c command b rest reach h hb left oldest.
        let k : Checkpoint = checkpoint_of checkpoint in
        let hp : process < length t.processes = its_process reach h b hb left process k rest oldest in
        let same : p ≡ process = is-p (let y = reach.accepted.processes_high in omega arith) in
        let there : p < length s.processes =
        (let y = ap (λ (y : Store). length y.processes) left.left-is in
        let l = h.shape.processes-length in
        let m = reach.accepted.processes_high in
        omega arith) in
        let was : lists_at s p ≡ lists_at before process = λ i. lists_at (left.left-is i) (same i) in
        subst (λ (i : ℕ). Answered t (at_rest s i x) entries c command (transmit_item t (with_outbox b rest c) (rules.checkpoint process k))
        (answer_for (sync_reason z) process (cond z dropped 0))) (sym same)
        (sync-answered reach h b hb left process k rest oldest x (subst (λ (y : code.Process). Changes y x (keeps k)) was became (h.kept process hp))
        dropped (subst (λ (y : code.Process). Drops y k dropped) was drops) command z (sym (shown-is s p x there) ∙ e));
    reasoned = record { reason = sync_reason z; reason-is = refl };
    done = sync_done z;
    only = only_rests s p x;
  }

-- and on every store that is the lent one but for mailboxes, queues and totals, of a process whose backup alone changes, and so whatever its
-- mailbox is
module _ (s : Store) (process : ℕ) (checkpoint : checkpoints.Checkpoint) (p : ℕ) (is-p : process < 16 → p ≡ process) (x : code.Process)
    (became : (mail : List ℕ) → Changes (record (lists_at s p) { mail = mail }) (record x { mail = mail }) (keeps (checkpoint_of checkpoint))) (dropped : ℕ)
    (drops : (mail : List ℕ) → Drops (record (lists_at s p) { mail = mail }) (checkpoint_of checkpoint) dropped) (alone : BackupAlone (lists_at s p) x) where
  pub syncs_so_beside : (z : Bool) → shown s p x ≡ z → Syncs s process checkpoint (at_rest s p x) (answer_for (sync_reason z) process (cond z dropped 0))
  syncs_so_beside z e = record {
    answered = λ t mails queues totals entries c command b queue' rest reach h hb popped oldest.
        let k : Checkpoint = checkpoint_of checkpoint in
        let before : Store = record (with_mails mails s) { queues = queues; totals = totals } in
        let gone : Store = record before { queues = set queues b queue' } in
        let left : Left before b gone = record { queue = queue'; popped = popped; left-is = refl } in
        let hp : process < length t.processes = its_process reach h b hb left process k rest oldest in
        let same : p ≡ process = is-p (let y = reach.accepted.processes_high in omega arith) in
        let many : length gone.processes ≡ length s.processes = each_length other_mail mails s.processes in
        let there : p < length s.processes =
        (let l = h.shape.processes-length in
        let m = reach.accepted.processes_high in
        omega arith) in
        let x' : code.Process = other_mail x (mails p) in
        let was : other_mail (lists_at s p) (mails p) ≡ lists_at gone p = sym (each_at other_mail mails s.processes p there) in
        let changes : Changes (lists_at gone p) x' (keeps k) = subst (λ (y : code.Process). Changes y x' (keeps k)) was (became (mails p).mail) in
        let its : Drops (lists_at gone p) k dropped = subst (λ (y : code.Process). Drops y k dropped) was (drops (mails p).mail) in
        let as-shown : shown gone p x' ≡ z = shown-is gone p x' (rw many there) ∙ sym (shown-is s p x there) ∙ e in
        subst (λ (y : List code.Process). Answered t (record { processes = y; queues = set queues b queue'; totals = totals }) entries c command
        (transmit_item t (with_outbox b rest c) (rules.checkpoint process k)) (answer_for (sync_reason z) process (cond z dropped 0)))
        (sym (each_rest other_mail mails 0 (λ y i. refl) s.processes p x there))
        ((syncs_so gone process checkpoint p is-p x' changes dropped its z as-shown).answered t before entries c command b rest reach h hb left oldest);
    reasoned = record { reason = sync_reason z; reason-is = refl };
    done = sync_done z;
    only = only_rests s p x;
    mails-stay = stays_rest (λ (y : code.Process). y.mail) 0 (λ y. refl) s.processes p x (ap (λ (y : code.Process). y.mail) alone);
  }

-- of the store as it was before the entry left its queue, whose mailboxes, queues and totals it has
pub syncs_own : {s s' : Store} {process : ℕ} {checkpoint : checkpoints.Checkpoint} {r : Answer} → Syncs s process checkpoint s' r
    → (t : Table) (before : Store) (entries : List Entry) (c : Cabinet) (command : Command) (b : ℕ) (rest : List rules.Item)
    → Reachable t c → Holds t before entries c → b < t.boards → Left before b s
    → outbox_at c b ≡ rules.checkpoint process (checkpoint_of checkpoint) ∷ rest
    → Answered t s' entries c command (transmit_item t (with_outbox b rest c) (rules.checkpoint process (checkpoint_of checkpoint))) r
syncs_own {s} {s'} {process} {checkpoint} {r} m t before entries c command b rest reach h hb left oldest =
    let was : before ≡ record (with_mails (lists_at s) s) { queues = before.queues; totals = before.totals } =
    as_left before (with_mails (lists_at s)) left (own_mails s s (λ p. refl)) in
    let is : record (with_mails (lists_at s) s') { queues = set before.queues b left.queue; totals = before.totals } ≡ s' =
    as_then before (with_mails (lists_at s)) left m.only (own_mails s s' m.mails-stay) in
    subst (λ (y : Store). Answered t y entries c command (transmit_item t (with_outbox b rest c) (rules.checkpoint process (checkpoint_of checkpoint))) r) is
    (m.answered t (lists_at s) before.queues before.totals entries c command b left.queue rest reach
    (subst (λ (y : Store). Holds t y entries c) was h) hb left.popped oldest)
