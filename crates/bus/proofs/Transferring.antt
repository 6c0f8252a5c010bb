-- The carry of a state transfer: its entry left the queue, and the record that was being made is complete.
use Rattle.std.proofs.Common.{◌≡◌, ℕ, ◌<◌, List, ◌∷◌, length, set, sym, refl, ap, subst, subst₂, arith}
use Rattle.numbers.specs.declared.answers.Reason.TheVariants.{ResyncCarried}
use Rattle.process.specs.declared.process.Process as code
use Rattle.process.specs.Row.{completed_in}
use Rattle.process.specs.Change.{Became, Changes}
use Rattle.rules.specs.Table.{Table}
use Rattle.rules.specs.Cabinet as rules
use Rattle.rules.specs.Cabinet.{Cabinet, process_at, outbox_at}
use Rattle.rules.specs.Moves.{Command, numbers, with_process, with_outbox, end_transfer, transmit_item}
use Rattle.rules.specs.Reasons.{cause_of}
use Rattle.state.specs.declared.entry.Entry.{Entry}
use Rattle.state.specs.declared.moved.Answer.{Answer}
use Rattle.state.specs.declared.store.Store.{Store}
use Rattle.state.specs.Store.{Holds, lists_at}
use Rattle.state.specs.Moved.{Reachable, Answered, answer_for}
use Rattle.state.specs.Beside.{other_lists, with_lists}
use Rattle.state.proofs.Beside.{each_length, each_at, own_lists}
use Rattle.state.proofs.Changing.{row_changed}
use Rattle.state.proofs.Joining.{Waiter}
use Rattle.state.proofs.Owners.{transfer_owner}
use Rattle.bus.specs.Parts.{Left}
use Rattle.bus.specs.Transfers.{Transfers}
use Rattle.bus.proofs.Own.{TransfersOwn}
use Rattle.bus.proofs.Leaving.{at_rest, only_rests, waiter_leaves}
use Rattle.bus.proofs.Besides.{stays_rest, each_rest, completed_so, as_left, as_then}

transfer-waits : (p : ℕ) → Waiter p (rules.transfer p)
transfer-waits p = record { its = λ q. refl; no_word = λ i. refl }

module _ {t : Table} {s s₁ : Store} {entries : List Entry} {c : Cabinet} (reach : Reachable t c) (h : Holds t s entries c) (b : ℕ) (hb : b < t.boards)
    (gone : Left s b s₁) (p : ℕ) (rest : List rules.Item) (oldest : outbox_at c b ≡ rules.transfer p ∷ rest) where
  its_process : p < length t.processes
  its_process = (transfer_owner reach b p rest oldest).0

  transfer-holds : (x : code.Process) → Became (lists_at s p) x end_transfer
      → Holds t (at_rest s₁ p x) entries (with_process p (end_transfer (process_at c p)) (with_outbox b rest c))
  unfolding end_transfer
  transfer-holds x became =
      let first = row_changed h reach.accepted.processes_high p its_process x end_transfer became refl refl in
      subst (λ (y : Store). Holds t (at_rest y p x) entries (with_process p (end_transfer (process_at c p)) (with_outbox b rest c))) (sym gone.left-is)
      (waiter_leaves reach p (end_transfer (process_at c p)) first b hb (rules.transfer p) (transfer-waits p) rest oldest its_process
      (transfer_owner reach b p rest oldest).1 gone.queue gone.popped)

-- on the lent store itself, of any process that is as the rules' change makes it
pub transfers_so : (s : Store) (process p : ℕ) → (process < 16 → p ≡ process) → (x : code.Process) → Changes (lists_at s p) x end_transfer
    → TransfersOwn s process (at_rest s p x) (answer_for ResyncCarried process 0)
unfolding transmit_item numbers cause_of
transfers_so s process p is-p x became = record {
  answered = λ t before entries c command b rest reach h hb left oldest.
      let hp : process < length t.processes = its_process reach h b hb left process rest oldest in
      let same : p ≡ process = is-p (let z = reach.accepted.processes_high in omega arith) in
      let was : lists_at s p ≡ lists_at before process = λ i. lists_at (left.left-is i) (same i) in
      subst (λ (i : ℕ). Answered t (at_rest s i x) entries c command (transmit_item t (with_outbox b rest c) (rules.transfer process))
      (answer_for ResyncCarried process 0)) (sym same)
      (record {
        answer-is = refl;
        cause_is = refl;
        holds = transfer-holds reach h b hb left process rest oldest x
            (subst (λ (y : code.Process). Changes y x end_transfer) was became (h.kept process hp));
      });
  reasoned = record { reason = ResyncCarried; reason-is = refl };
  done = omega arith;
  only = only_rests s p x;
}

-- and on every store that is the lent one but for mailboxes, backups, queues and totals, of the process that the code makes
pub transfers_so_beside : (s : Store) (process p : ℕ) → (process < 16 → p ≡ process) → (x : code.Process) → x ≡ completed_in (lists_at s p)
    → Transfers s process (at_rest s p x) (answer_for ResyncCarried process 0)
transfers_so_beside s process p is-p x exact = record {
  answered = λ t others queues totals entries c command b queue' rest reach h hb popped oldest.
      let before : Store = record (with_lists others s) { queues = queues; totals = totals } in
      let gone : Store = record before { queues = set queues b queue' } in
      let left : Left before b gone = record { queue = queue'; popped = popped; left-is = refl } in
      let hp : process < length t.processes = its_process reach h b hb left process rest oldest in
      let same : p ≡ process = is-p (let z = reach.accepted.processes_high in omega arith) in
      let there : p < length s.processes =
      (let y = each_length other_lists others s.processes in
      let l = h.shape.processes-length in
      let m = reach.accepted.processes_high in
      omega arith) in
      let x' : code.Process = other_lists x (others p) in
      let changes : Changes (lists_at gone p) x' end_transfer =
      subst₂ (λ (y y' : code.Process). Changes y y' end_transfer) (sym (each_at other_lists others s.processes p there))
      (ap (λ (y : code.Process). other_lists y (others p)) (sym exact)) (completed_so (other_lists (lists_at s p) (others p))) in
      subst (λ (y : List code.Process). Answered t (record { processes = y; queues = set queues b queue'; totals = totals }) entries c command
      (transmit_item t (with_outbox b rest c) (rules.transfer process)) (answer_for ResyncCarried process 0))
      (sym (each_rest other_lists others 0 (λ y i. refl) s.processes p x there))
      ((transfers_so gone process p is-p x' changes).answered t before entries c command b rest reach h hb left oldest);
  reasoned = record { reason = ResyncCarried; reason-is = refl };
  done = omega arith;
  only = only_rests s p x;
  mails-stay = stays_rest (λ (y : code.Process). y.mail) 0 (λ y. refl) s.processes p x (ap (λ (y : code.Process). y.mail) exact);
  backups-stay = λ q. record {
    log-stays = stays_rest (λ (y : code.Process). y.log) 0 (λ y. refl) s.processes p x (ap (λ (y : code.Process). y.log) exact) q;
    head-stays = stays_rest (λ (y : code.Process). y.head) 0 (λ y. refl) s.processes p x (ap (λ (y : code.Process). y.head) exact) q;
  };
}

-- of the store as it was before the entry left its queue, whose mailboxes, backups, queues and totals it has
pub transfers_own : {s s' : Store} {process : ℕ} {r : Answer} → Transfers s process s' r
    → (t : Table) (before : Store) (entries : List Entry) (c : Cabinet) (command : Command) (b : ℕ) (rest : List rules.Item)
    → Reachable t c → Holds t before entries c → b < t.boards → Left before b s → outbox_at c b ≡ rules.transfer process ∷ rest
    → Answered t s' entries c command (transmit_item t (with_outbox b rest c) (rules.transfer process)) r
transfers_own {s} {s'} {process} {r} m t before entries c command b rest reach h hb left oldest =
    let was : before ≡ record (with_lists (lists_at s) s) { queues = before.queues; totals = before.totals } =
    as_left before (with_lists (lists_at s)) left (own_lists s s (λ p. refl) (λ p. record { log-stays = refl; head-stays = refl })) in
    let is : record (with_lists (lists_at s) s') { queues = set before.queues b left.queue; totals = before.totals } ≡ s' =
    as_then before (with_lists (lists_at s)) left m.only (own_lists s s' m.mails-stay m.backups-stay) in
    subst (λ (y : Store). Answered t y entries c command (transmit_item t (with_outbox b rest c) (rules.transfer process)) r) is
    (m.answered t (lists_at s) before.queues before.totals entries c command b left.queue rest reach
    (subst (λ (y : Store). Holds t y entries c) was h) hb left.popped oldest)
