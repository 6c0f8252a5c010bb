-- A store in which each process has a part of another's: what is read there, what a change of one process makes of it, and when it is the store.
use Rattle.std.proofs.Common.{◌≡◌, refl, ℕ, ◌<◌, List, length, get_or, set, sym, ap, ◌∙◌, length-set, get_or-set_same, get_or-set_other}
use Rattle.facts.specs.Lists.{listed, listed_same, written_out}
use Rattle.facts.specs.Rings.{listed-length, get_or_listed, listed-set}
use Rattle.process.specs.declared.process.Process.{Process}
use Rattle.process.specs.Row.{no_process}
use Rattle.state.specs.declared.store.Store.{Store}
use Rattle.state.specs.Store.{lists_at}
use Rattle.state.specs.Moved.{MailsStay, BackupsStay}
use Rattle.state.specs.Beside.{other_backup, other_lists, each_with, with_backups, with_lists}

module _ (part : Process → Process → Process) (others : ℕ → Process) where
  pub each_length : (l : List Process) → length (each_with part others l) ≡ length l
  each_length l = listed-length (λ p. part (get_or l p no_process) (others p)) (length l)

  pub each_at : (l : List Process) (p : ℕ) → p < length l → get_or (each_with part others l) p no_process ≡ part (get_or l p no_process) (others p)
  each_at l p h = get_or_listed (λ q. part (get_or l q no_process) (others q)) (length l) p no_process h

  pub each_set : (l : List Process) (p : ℕ) (x : Process) → p < length l
      → each_with part others (set l p x) ≡ set (each_with part others l) p (part x (others p))
  each_set l p x h =
      let f : ℕ → Process = λ q. part (get_or l q no_process) (others q) in
      let g : ℕ → Process = λ q. part (get_or (set l p x) q no_process) (others q) in
      ap (listed g) (length-set l p x)
      ∙ listed-set f g (length l) p (λ i k n. ap (λ (y : Process). part y (others i)) (get_or-set_other l p i x no_process n))
      ∙ ap (λ (y : Process). set (listed f (length l)) p (part y (others p))) (get_or-set_same l p x no_process h)

-- where each process has that part already, it is the list as it was
pub each_same : (part : Process → Process → Process) (others : ℕ → Process) (l : List Process)
    → ((p : ℕ) → part (get_or l p no_process) (others p) ≡ get_or l p no_process) → each_with part others l ≡ l
each_same part others l h =
    listed_same (λ p. part (get_or l p no_process) (others p)) (λ p. get_or l p no_process) (length l) (λ p k. h p)
    ∙ sym (written_out l (length l) no_process refl)

-- a store with the backups of one whose backups it has
pub own_backups : (s s' : Store) → BackupsStay s s' → with_backups (lists_at s) s' ≡ s'
own_backups s s' h =
    ap (λ (l : List Process). record s' { processes = l })
    (each_same other_backup (lists_at s) s'.processes (λ p. λ k. record (lists_at s' p) { log = sym (h p).log-stays k; head = sym (h p).head-stays k }))

-- and with the mailboxes too
pub own_lists : (s s' : Store) → MailsStay s s' → BackupsStay s s' → with_lists (lists_at s) s' ≡ s'
own_lists s s' m h =
    ap (λ (l : List Process). record s' { processes = l })
    (each_same other_lists (lists_at s) s'.processes (λ p. λ k. record (lists_at s' p) {
      mail = sym (m p) k;
      log = sym (h p).log-stays k;
      head = sym (h p).head-stays k;
    }))
