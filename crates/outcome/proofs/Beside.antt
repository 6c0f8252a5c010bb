-- Of a cabinet that a store holds which has a part of other processes: what that store has of each process of the table. And that a store has
-- its own mailboxes and backups.
use Rattle.std.proofs.Common.{◌≡◌, refl, ℕ, ◌<◌, List, length, get_or, arith}
use Rattle.process.specs.declared.process.Process.{Process}
use Rattle.process.specs.Row.{no_process}
use Rattle.rules.specs.Table.{Table}
use Rattle.rules.specs.Cabinet.{Cabinet}
use Rattle.state.specs.declared.entry.Entry.{Entry}
use Rattle.state.specs.declared.queue.Queue.{Queue}
use Rattle.state.specs.declared.store.Store.{Store}
use Rattle.state.specs.Beside.{each_with, with_backups, with_lists}
use Rattle.state.specs.Store.{Holds, lists_at}
use Rattle.state.specs.Moved.{Reachable}
use Rattle.state.proofs.Beside.{each_length, each_at, own_backups, own_lists}

pub seen_beside : (part : Process → Process → Process) (others : ℕ → Process) (l : List Process) {queues : List Queue} {totals : List ℕ} {t : Table} {entries : List Entry} {c : Cabinet}
    → Reachable t c → Holds t (record { processes = each_with part others l; queues = queues; totals = totals }) entries c → (p : ℕ) → p < length t.processes
    → get_or (each_with part others l) p no_process ≡ part (get_or l p no_process) (others p)
seen_beside part others l reach h p few =
    each_at part others l p (let a = each_length part others l in let b = h.shape.processes-length in let high = reach.accepted.processes_high in omega arith)

pub its_backups : (s : Store) → with_backups (lists_at s) s ≡ s
its_backups s = own_backups s s (λ p. record { log-stays = refl; head-stays = refl })

pub its_lists : (s : Store) → with_lists (lists_at s) s ≡ s
its_lists s = own_lists s s (λ p. refl) (λ p. record { log-stays = refl; head-stays = refl })
