-- A crash in each process, one process after another.
use Rattle.std.proofs.Common.{◌≡◌, ℕ, zero, suc, ◌+◌, List, [], ◌∷◌, get_or, set, sym, refl, ◌∙◌, subst, arith, length-set, get_or-set_other, get_or-set_same}
use Rattle.facts.specs.Tests.{by_eq}
use Rattle.plan.specs.declared.Program.{Program}
use Rattle.process.specs.declared.process.Process.{Process}
use Rattle.process.specs.Row.{no_process}
use Rattle.process.specs.Change.{BackupStays}
use Rattle.process.specs.Promotion.{Crashed}
use Rattle.crash.specs.Processes.{port_channel, port_channels, AllCrashed}

-- a process is put in the place of another, whose backup it has: each has the backup that it had
backups_put : (processes : List Process) (i : ℕ) (x : Process) → BackupStays (get_or processes i no_process) x
    → (p : ℕ) → BackupStays (get_or processes p no_process) (get_or (set processes i x) p no_process)
backups_put [] i x h p = record { log-stays = refl; head-stays = refl }
backups_put (y ∷ processes) zero x h zero = h
backups_put (y ∷ processes) zero x h (suc p) = record { log-stays = refl; head-stays = refl }
backups_put (y ∷ processes) (suc i) x h zero = record { log-stays = refl; head-stays = refl }
backups_put (y ∷ processes) (suc i) x h (suc p) = backups_put processes i x h p

-- board a crashed in the first i processes, and then in the next one, which is x from then on
pub crashed_more : (programs : List Program) (processes₀ : List Process) (a : ℕ) (processes : List Process) (i : ℕ) (c : AllCrashed i programs processes₀ a processes)
    (k0 k1 k2 k3 : ℕ) (x : Process)
    → k0 ≡ port_channel programs i 0 → k1 ≡ port_channel programs i 1 → k2 ≡ port_channel programs i 2 → k3 ≡ port_channel programs i 3
    → Crashed (get_or processes i no_process) x a (k0 ∷ k1 ∷ k2 ∷ k3 ∷ []) → BackupStays (get_or processes i no_process) x
    → AllCrashed (i + 1) programs processes₀ a (set processes i x)
crashed_more programs processes₀ a processes i c k0 k1 k2 k3 x e0 e1 e2 e3 h stays =
    let channels : (k0 ∷ k1 ∷ k2 ∷ k3 ∷ []) ≡ port_channels programs i = λ j. e0 j ∷ e1 j ∷ e2 j ∷ e3 j ∷ [] in
    let mine : Crashed (get_or processes₀ i no_process) x a (port_channels programs i) = rw (c.rest_at i (omega arith), channels) at h in
    record {
      same_length = length-set processes i x ∙ c.same_length;
      crashed_at = λ p y z. by_eq p i
          (λ f. subst (λ (q : ℕ). Crashed (get_or processes₀ q no_process) (get_or (set processes i x) q no_process) a (port_channels programs q)) (sym f)
          (rw (get_or-set_same processes i x no_process (let q = c.same_length in omega arith)) mine))
          (λ f. rw (get_or-set_other processes i p x no_process f) (c.crashed_at p (omega arith) z));
      rest_at = λ p y. get_or-set_other processes i p x no_process (λ q. omega arith) ∙ c.rest_at p (omega arith);
      backups-stay = λ p.
          let before = c.backups-stay p in
          let now = backups_put processes i x stays p in
          record { log-stays = now.log-stays ∙ before.log-stays; head-stays = now.head-stays ∙ before.head-stays };
    }
