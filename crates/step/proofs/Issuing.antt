-- Move 2 in a store: the refusals, and a checkpoint that joins its board's queue.
use Rattle.std.proofs.Common.{◌≡◌, ℕ, ◌<◌, true, false, leb, List, length, get_or, set, sym, refl, ap, ◌∙◌, subst, subst₂, arith, length-set, Some}
use borrow.Author.Tests.{leb-false}
use Rattle.process.specs.declared.process.Process as lent
use Rattle.process.specs.Row.{waiting_in, no_process, backed, anew_in, checkpoint_in}
use Rattle.process.specs.Change.{Changes}
use Rattle.process.proofs.Processes.{checkpoint-is, issued-became}
use Rattle.rules.specs.Table.{Table}
use Rattle.rules.specs.Cabinet as rules
use Rattle.rules.specs.Cabinet.{is_waiter_of, Cabinet, outbox_most, process_at, outbox_at}
use Rattle.rules.specs.Moves.{refuse, accept, guard, no_backup, sync_waits, sync_blocked, issue, issued, snapshot, with_process, enqueue, issue_done, numbers}
use Rattle.rules.specs.Reasons.{cause_of}
use Rattle.numbers.specs.declared.answers.Reason.TheVariants.{SyncIssued, NoBackup, SyncWaiting, QueueFullForSync}
use Rattle.rules.proofs.Counting.{weight}
use Rattle.state.specs.declared.entry.Entry.{Entry}
use Rattle.state.specs.declared.moved.Moved.{Moved}
use Rattle.state.specs.declared.store.Store.{Store}
use Rattle.state.specs.Queue.{no_queue, count_in, place_of, pushed_in}
use Rattle.state.specs.Store.{item_of, lists_at, Holds}
use Rattle.state.specs.Moved.{Reachable, refused_for, answer_for, moved_of}
use Rattle.state.specs.Beside.{other_lists, each_with}
use Rattle.state.proofs.Beside.{each_at, each_set}
use Rattle.state.proofs.Changing.{row_changed}
use Rattle.state.proofs.Flagging.{flagged, with_flag}
use Rattle.state.proofs.Joining.{is-protected, board-is, board-there, queue_has, waits_so, Waiter, waiter_joins}
use Rattle.state.proofs.Reading.{at_process}
use Rattle.state.proofs.Refusing.{turned_away_lem, makes-refused}
use Rattle.step.specs.Issues.{Issues, synced_as, sync_entry}
use Rattle.step.proofs.Own.{IssuesOwn}
use Rattle.step.proofs.Beside.{same_many, within, its_part}
use Rattle.state.proofs.Making.{its_index, its_board, answered, makes-joined, for_reason}

-- the store afterwards: process p waits, then what the process's own call made of it
abbrev issued_from : Store → ℕ → ℕ → lent.Process → Store
issued_from s p b x' = record {
  processes = set (with_flag s.processes p 1) p x';
  queues = set s.queues b (pushed_in (get_or s.queues b no_queue));
  totals = s.totals;
}

module _ {t : Table} {s : Store} {entries : List Entry} {c : Cabinet} (reach : Reachable t c) (h : Holds t s entries c) (p : ℕ) (hp : p < length t.processes) where
  abbrev x : lent.Process
  x = lists_at s p

  abbrev b : ℕ
  b = x.board

  -- ---- what the rules answer

  refused_40 : backed x.protection ≡ false → issue t c p ≡ refuse no_backup
  unfolding issue guard
  refused_40 z = rw (is-protected reach h p hp false z)

  module _ (n : backed x.protection ≡ true) where
    refused_41 : waiting_in x.waits ≡ true → issue t c p ≡ refuse sync_waits
    unfolding issue guard
    refused_41 w = rw (is-protected reach h p hp true n, waits_so reach h p hp true w)

    module _ (w : waiting_in x.waits ≡ false) where
      refused_38 : leb outbox_most (count_in s.queues b) ≡ true → issue t c p ≡ refuse sync_blocked
      unfolding issue guard
      refused_38 l =
          rw (
            is-protected reach h p hp true n,
            waits_so reach h p hp false w,
            queue_has reach h p hp,
            l,
          )

      accepted_so : leb outbox_most (count_in s.queues b) ≡ false
          → issue t c p ≡ accept (with_process p (issued (process_at c p)) (enqueue (process_at c p).board (rules.checkpoint p (snapshot (process_at c p))) c)) issue_done
      unfolding issue guard
      accepted_so l =
          rw (
            is-protected reach h p hp true n,
            waits_so reach h p hp false w,
            queue_has reach h p hp,
            l,
          )

  -- ---- the checkpoint joins

  -- the entry is the process as a checkpoint
  its_item : item_of (sync_entry s p).item ≡ rules.checkpoint p (snapshot (process_at c p))
  its_item = ap (rules.checkpoint p) (checkpoint-is x (h.kept p hp) ∙ ap snapshot (sym (at_process h p hp)))

  sync-waits : Waiter p (item_of (sync_entry s p).item)
  sync-waits = record { its = λ q. ap (is_waiter_of q) its_item; no_word = λ i. ap (weight i) its_item }

  -- the store afterwards holds the rules' cabinet afterwards
  issue-holds : (x' : lent.Process) → count_in s.queues b < outbox_most → Changes (get_or (with_flag s.processes p 1) p no_process) x' issued
      → Holds t (issued_from s p b x') (set entries (place_of (get_or s.queues b no_queue) b) (sync_entry s p))
      (with_process p (issued (process_at c p)) (enqueue (process_at c p).board (rules.checkpoint p (snapshot (process_at c p))) c))
  unfolding issued
  issue-holds x' few became =
      let then : ℕ → rules.Item → Type 0 = λ i item.
      Holds t (issued_from s p b x') (set entries (place_of (get_or s.queues b no_queue) b) (sync_entry s p)) (with_process p (issued (process_at c p)) (enqueue i item c)) in
      let first = waiter_joins reach h p hp (sync_entry s p) sync-waits few in
      let whole : then b (item_of (sync_entry s p).item) = row_changed first reach.accepted.processes_high p hp x' issued (became (first.kept p hp)) refl refl in
      subst (λ (i : ℕ). then i (rules.checkpoint p (snapshot (process_at c p)))) (sym (board-is reach h p hp)) (subst (then b) its_item whole)

-- a process as a checkpoint is that of it with another mailbox and another backup
entry_beside : (a : ℕ) (x other : lent.Process) {y : lent.Process} → y ≡ other_lists x other
    → synced_as a (checkpoint_in y) ≡ synced_as a (checkpoint_in x)
unfolding checkpoint_in
entry_beside a x other is = ap (λ (z : lent.Process). synced_as a (checkpoint_in z)) is

-- ---- what the move promises

module _ (s : Store) (p a : ℕ) (is-p : a < 16 → p ≡ a) (r : Moved) where
  abbrev its : lent.Process
  its = lists_at s p

  pub issues_40 : backed its.protection ≡ false → r ≡ refused_for NoBackup a → Issues s a s r
  issues_40 z e l others totals =
      makes-refused NoBackup e (λ t entries c command reach planned h f ha.
      let q = its_index reach ha is-p in
      let hp = rw (← q) at ha in
      let is = its_part other_lists others s.processes reach h refl p hp in
      rw (← q) (turned_away_lem command p no_backup h (refused_40 reach h p hp (ap (λ (y : lent.Process). backed y.protection) is ∙ z)) (f ∙ sym q) refl))

  module _ (n : backed its.protection ≡ true) where
    pub issues_41 : waiting_in its.waits ≡ true → r ≡ refused_for SyncWaiting a → Issues s a s r
    issues_41 w e l others totals =
        makes-refused SyncWaiting e (λ t entries c command reach planned h f ha.
        let q = its_index reach ha is-p in
        let hp = rw (← q) at ha in
        let is = its_part other_lists others s.processes reach h refl p hp in
        rw (← q) (turned_away_lem command p sync_waits h
        (refused_41 reach h p hp (ap (λ (y : lent.Process). backed y.protection) is ∙ n) (ap (λ (y : lent.Process). waiting_in y.waits) is ∙ w)) (f ∙ sym q) refl))

    module _ (w : waiting_in its.waits ≡ false) (b : ℕ) (is_b : its.board < 16 → b ≡ its.board) where
      -- the same is so of it with another mailbox and another backup
      board_beside : (other : lent.Process) {y : lent.Process} → y ≡ other_lists its other → y.board < 16 → b ≡ y.board
      board_beside other is = let e = ap (λ (z : lent.Process). z.board) is in λ l. is_b (rw (← e) l) ∙ sym e

      pub issues_38 : leb outbox_most (count_in s.queues b) ≡ true → r ≡ refused_for QueueFullForSync a → Issues s a s r
      issues_38 full e l others totals =
          makes-refused QueueFullForSync e (λ t entries c command reach planned h f ha.
          let q = its_index reach ha is-p in
          let hp = rw (← q) at ha in
          let is = its_part other_lists others s.processes reach h refl p hp in
          let bb = its_board reach (board-there reach h p hp) (board_beside (others p) is) in
          let all = subst (λ (i : ℕ). leb outbox_most (count_in s.queues i) ≡ true) bb full in
          rw (← q) (turned_away_lem command p sync_blocked h
          (refused_38 reach h p hp (ap (λ (y : lent.Process). backed y.protection) is ∙ n) (ap (λ (y : lent.Process). waiting_in y.waits) is ∙ w) all) (f ∙ sym q) refl))

      -- the process waits, with another mailbox and another backup too
      flag_beside : (others : ℕ → lent.Process) → p < length s.processes
          → each_with other_lists others (with_flag s.processes p 1) ≡ with_flag (each_with other_lists others s.processes) p 1
      flag_beside others hp =
          each_set other_lists others s.processes p (flagged its 1) hp
          ∙ ap (λ (y : lent.Process). set (each_with other_lists others s.processes) p (flagged y 1)) (sym (each_at other_lists others s.processes p hp))

      -- on the lent store itself, of any process that is as the rules' change makes it
      pub issues-done : (x' : lent.Process) → leb outbox_most (count_in s.queues b) ≡ false → Changes (get_or (with_flag s.processes p 1) p no_process) x' issued
          → place_of (get_or s.queues b no_queue) b < 512 → r ≡ moved_of (answer_for SyncIssued 0 0) (Some (place_of (get_or s.queues b no_queue) b))
          → IssuesOwn s a (issued_from s p b x') r
      unfolding numbers cause_of
      issues-done x' few became below e l =
          makes-joined (answer_for SyncIssued 0 0) (for_reason SyncIssued 0 0) (omega arith)
          (record { processes-same = simp length-set; queues-same = length-set s.queues b _; totals-same = refl })
          (place_of (get_or s.queues b no_queue) b) below refl e
          (λ t entries c command reach planned h f ha.
          let q = its_index reach ha is-p in
          let hp : p < length t.processes = rw q ha in
          let bb = its_board reach (board-there reach h p hp) is_b in
          let few0 : leb outbox_most (count_in s.queues its.board) ≡ false = rw (← bb) few in
          rw (← q, bb) (answered _ issue_done (accepted_so reach h p hp n w few0) refl refl (issue-holds reach h p hp x' (leb-false outbox_most _ few0) became)))

      -- and on every store that is the lent one but for mailboxes, backups and totals, of the process that the code makes
      pub issues_done_beside : (x' : lent.Process) → leb outbox_most (count_in s.queues b) ≡ false → x' ≡ anew_in (get_or (with_flag s.processes p 1) p no_process)
          → place_of (get_or s.queues b no_queue) b < 512 → r ≡ moved_of (answer_for SyncIssued 0 0) (Some (place_of (get_or s.queues b no_queue) b))
          → Issues s a (issued_from s p b x') r
      unfolding numbers cause_of
      issues_done_beside x' few exact below e l others totals =
          makes-joined (answer_for SyncIssued 0 0) (for_reason SyncIssued 0 0) (omega arith)
          (record {
            processes-same = same_many other_lists others s.processes _
                (length-set (with_flag s.processes p 1) p x' ∙ length-set s.processes p (flagged its 1));
            queues-same = length-set s.queues b _;
            totals-same = refl;
          })
          (place_of (get_or s.queues b no_queue) b) below refl e
          (λ t entries c command reach planned h f ha.
          let q = its_index reach ha is-p in
          let hp = rw (← q) at ha in
          let there = within other_lists others s.processes reach h refl p hp in
          let is = its_part other_lists others s.processes reach h refl p hp in
          let flag = flag_beside others there in
          let there-flagged : p < length (with_flag s.processes p 1) = rw (length-set s.processes p (flagged its 1)) there in
          let now = get_or (with_flag s.processes p 1) p no_process in
          let now-is : get_or (with_flag (each_with other_lists others s.processes) p 1) p no_process ≡ other_lists now (others p) =
          ap (λ (y : List lent.Process). get_or y p no_process) (sym flag) ∙ each_at other_lists others (with_flag s.processes p 1) p there-flagged in
          let put : each_with other_lists others (set (with_flag s.processes p 1) p x') ≡ set (with_flag (each_with other_lists others s.processes) p 1) p (other_lists x' (others p)) =
          each_set other_lists others (with_flag s.processes p 1) p x' there-flagged ∙ ap (λ (y : List lent.Process). set y p (other_lists x' (others p))) flag in
          let became =
          subst₂ (λ (y y' : lent.Process). Changes y y' issued) (sym now-is) (ap (λ (y : lent.Process). other_lists y (others p)) (sym exact))
          (issued-became (other_lists now (others p))) in
          let bb = its_board reach (board-there reach h p hp) (board_beside (others p) is) in
          let few0 = subst (λ (i : ℕ). leb outbox_most (count_in s.queues i) ≡ false) bb few in
          let so = accepted_so reach h p hp (ap (λ (y : lent.Process). backed y.protection) is ∙ n) (ap (λ (y : lent.Process). waiting_in y.waits) is ∙ w) few0 in
          rw (put, ← q, bb, ← entry_beside p its (others p) is)
          (answered _ issue_done so refl refl (issue-holds reach h p hp (other_lists x' (others p)) (leb-false outbox_most _ few0) became)))
