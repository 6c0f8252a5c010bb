-- One process changes and nothing of it waits any more: what that leaves of each process, and what it is in a store with other mailboxes or backups.
use Rattle.std.proofs.Common.{◌≡◌, ℕ, ◌<◌, Bool, true, false, cond, List, length, get_or, set, sym, refl, ap, ◌∙◌, subst, length-set, get_or-set_other, get_or-set_same}
use lib.Seq.{set_out}
use Rattle.facts.specs.Tests.{by_eq, by_lt}
use Rattle.process.specs.declared.process.Process.{Process}
use Rattle.process.specs.Row.{no_process, recorded, completed_in}
use Rattle.process.specs.Change.{Changes}
use Rattle.process.proofs.Transferring.{ends-transfer-none, ends-transfer_so}
use Rattle.rules.specs.Moves.{end_transfer}
use Rattle.state.specs.declared.store.Store.{Store}
use Rattle.state.specs.Store.{lists_at}
use Rattle.state.specs.Moved.{MailsStay}
use Rattle.state.specs.Beside.{each_with}
use Rattle.state.proofs.Beside.{each_at, each_set, each_same}
use Rattle.state.proofs.Flagging.{flagged, with_flag}
use Rattle.bus.specs.Parts.{other_mail, with_mails, OnlyProcesses, Left}

-- ---- what stays

-- what the changed process has as it had it, each process has
stays_set : {A : Type 0} (f : Process → A) (l : List Process) (p : ℕ) (x : Process) → f x ≡ f (get_or l p no_process)
    → (q : ℕ) → f (get_or (set l p x) q no_process) ≡ f (get_or l q no_process)
stays_set f l p x e q =
    by_eq q p
    (λ same. by_lt p (length l)
    (λ h. ap (λ (i : ℕ). f (get_or (set l p x) i no_process)) same ∙ ap f (get_or-set_same l p x no_process h) ∙ e
    ∙ ap (λ (i : ℕ). f (get_or l i no_process)) (sym same))
    (λ h. ap (λ (y : List Process). f (get_or y q no_process)) (set_out l p x h)))
    (λ n. ap f (get_or-set_other l p q x no_process n))

-- so too where nothing of it waits any more
pub stays_rest : {A : Type 0} (f : Process → A) (v : ℕ) → ((y : Process) → f (flagged y v) ≡ f y) → (l : List Process) (p : ℕ) (x : Process)
    → f x ≡ f (get_or l p no_process) → (q : ℕ) → f (get_or (with_flag (set l p x) p v) q no_process) ≡ f (get_or l q no_process)
stays_rest f v free l p x e q =
    stays_set f (set l p x) p (flagged (get_or (set l p x) p no_process) v) (free (get_or (set l p x) p no_process)) q ∙ stays_set f l p x e q

-- ---- with other parts

module _ (part : Process → Process → Process) (others : ℕ → Process) (v : ℕ)
    (free : (y : Process) (p : ℕ) → part (flagged y v) (others p) ≡ flagged (part y (others p)) v) where
  -- the same process changes, and has that part too
  pub each_rest : (l : List Process) (p : ℕ) (x : Process) → p < length l
      → each_with part others (with_flag (set l p x) p v) ≡ with_flag (set (each_with part others l) p (part x (others p))) p v
  each_rest l p x h =
      let m : List Process = set l p x in
      let hm : p < length m = rw (length-set l p x) h in
      each_set part others m p (flagged (get_or m p no_process) v) hm
      ∙ ap (λ (y : Process). set (each_with part others m) p y)
      (free (get_or m p no_process) p ∙ ap (λ (y : Process). flagged y v) (sym (each_at part others m p hm)))
      ∙ ap (λ (y : List Process). with_flag y p v) (each_set part others l p x h)

-- a store with the mailboxes of one whose mailboxes it has
pub own_mails : (s s' : Store) → MailsStay s s' → with_mails (lists_at s) s' ≡ s'
own_mails s s' h =
    ap (λ (l : List Process). record s' { processes = l })
    (each_same other_mail (lists_at s) s'.processes (λ p. λ k. record (lists_at s' p) { mail = sym (h p) k }))

-- ---- of the store before an entry left its queue

module _ {s : Store} (before : Store) (other : Store → Store) {b : ℕ} (left : Left before b s) where
  -- with the queues and totals that it had it is the one before,
  pub as_left : other s ≡ s → before ≡ record (other s) { queues = before.queues; totals = before.totals }
  as_left e = λ i. record {
    processes = (sym (ap (λ (y : Store). y.processes) (e ∙ left.left-is))) i;
    queues = before.queues;
    totals = before.totals;
  }

  -- and with the queue as the leaving made it the one after
  pub as_then : {s' : Store} → OnlyProcesses s s' → other s' ≡ s'
      → record (other s') { queues = set before.queues b left.queue; totals = before.totals } ≡ s'
  as_then only e = λ i. record {
    processes = (ap (λ (y : Store). y.processes) e) i;
    queues = (sym (only.queues-is ∙ ap (λ (y : Store). y.queues) left.left-is)) i;
    totals = (sym (only.totals-is ∙ ap (λ (y : Store). y.totals) left.left-is)) i;
  }

-- ---- a record is complete

pub completed_so : (x : Process) → Changes x (completed_in x) end_transfer
completed_so x = go (recorded x.protection) refl
  where
    -- with a protection that is the one that it gets
    by_same : (q : ℕ) → q ≡ cond (recorded x.protection) 1 x.protection → Changes x (record x { protection = q }) end_transfer
        → Changes x (completed_in x) end_transfer
    by_same q e = subst (λ (y : ℕ). Changes x (record x { protection = y }) end_transfer) e

    go : (b : Bool) → recorded x.protection ≡ b → Changes x (completed_in x) end_transfer
    go true e = by_same 1 (sym (ap (λ (y : Bool). cond y 1 x.protection) e)) (ends-transfer_so x e)
    go false e = by_same x.protection (sym (ap (λ (y : Bool). cond y 1 x.protection) e)) (ends-transfer-none x e)
