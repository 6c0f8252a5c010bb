-- One process changes, on its own board still: the cabinet then held is the one with that process changed.
use Rattle.std.proofs.Common.{◌≡◌, ℕ, ◌<◌, ◌≤◌, ◌≢◌, List, length, get_or, set, sym, ap, ◌∙◌, subst, arith, length-set, get_or-set_other, get_or-set_same}
use Rattle.facts.specs.Tests.{by_eq}
use Rattle.facts.specs.Lists.{listed}
use Rattle.facts.specs.Rings.{listed-set}
use Rattle.process.specs.declared.process.Process as code
use Rattle.process.specs.Row.{no_process, process_of, Kept, Seated}
use Rattle.process.specs.Change.{Became}
use Rattle.rules.specs.Table.{Table, placement_at}
use Rattle.rules.specs.Cabinet.{Cabinet, Process, nobody, process_at, outbox_at, waiting}
use Rattle.rules.specs.Moves.{with_process}
use Rattle.state.specs.declared.entry.Entry.{Entry}
use Rattle.state.specs.declared.store.Store.{Store}
use Rattle.state.specs.Store.{flag, Totalled, Holds, lists_at, process_in}
use Rattle.state.proofs.Reading.{at_process, how_many}
use Rattle.state.proofs.Totals.{occupancy-mailbox, totalled-same}

-- the store with process p replaced, and the totals
abbrev pub put_process : Store → ℕ → code.Process → List ℕ → Store
put_process s p x totals = record { processes = set s.processes p x; queues = s.queues; totals = totals }

module _ {t : Table} {s : Store} {entries : List Entry} {c : Cabinet} (h : Holds t s entries c) (small : length t.processes ≤ 16)
    (p : ℕ) (hp : p < length t.processes) (x : code.Process) (totals : List ℕ) where
  abbrev after : Store
  after = put_process s p x totals

  pub lists_here : lists_at after p ≡ x
  lists_here = get_or-set_same s.processes p x no_process (let l = h.shape.processes-length in omega arith)

  pub lists-there : (q : ℕ) → q ≢ p → lists_at after q ≡ lists_at s q
  lists-there q n = get_or-set_other s.processes p q x no_process n

  pub process_here : process_in after p ≡ process_of x
  process_here = ap process_of lists_here

  pub process-there : (q : ℕ) → q ≢ p → process_in after q ≡ process_in s q
  process-there q n = ap process_of (lists-there q n)

  kept_then : Kept x → (q : ℕ) → q < length t.processes → Kept (lists_at after q)
  kept_then k q l = by_eq q p (λ f. rw (f, lists_here) k) (λ n. rw (lists-there q n) (h.kept q l))

  seated_then : ((a b : ℕ) → Seated a b (lists_at s p) → Seated a b x) → (q : ℕ) → q < length t.processes
      → Seated (placement_at t q).primary (placement_at t q).standby (lists_at after q)
  seated_then stays q l =
      by_eq q p
      (λ f. subst (λ (i : ℕ). Seated (placement_at t i).primary (placement_at t i).standby (lists_at after i)) (sym f) (rw lists_here (stays _ _ (h.seated p hp))))
      (λ n. rw (lists-there q n) (h.seated q l))

  processes_then : set c.processes p (process_of x) ≡ listed (process_in after) (length t.processes)
  processes_then =
      ap (λ (l : List Process). set l p (process_of x)) h.processes
      ∙ ap (λ (y : Process). set (listed (process_in s) (length t.processes)) p y) (sym process_here)
      ∙ sym (listed-set (process_in s) (process_in after) (length t.processes) p (λ i l n. process-there i n))

  board-stays : (process_of x).board ≡ (process_at c p).board → (q : ℕ) → (get_or (set c.processes p (process_of x)) q nobody).board ≡ (process_at c q).board
  board-stays e q =
      by_eq q p
      (λ f. rw f (ap (λ (y : Process). y.board) (get_or-set_same c.processes p (process_of x) nobody (rw (how_many h) hp)) ∙ e))
      (λ n. ap (λ (y : Process). y.board) (get_or-set_other c.processes p q (process_of x) nobody n))

  waits_then : x.waits ≡ (lists_at s p).waits → (q : ℕ) → q < length t.processes
      → (lists_at after q).waits ≡ flag (waiting q (outbox_at c (process_at c q).board))
  waits_then stay q l =
      by_eq q p
      (λ f. subst (λ (i : ℕ). (lists_at after i).waits ≡ flag (waiting i (outbox_at c (process_at c i).board))) (sym f)
      (ap (λ (y : code.Process). y.waits) lists_here ∙ stay ∙ h.waits-is p hp))
      (λ n. ap (λ (y : code.Process). y.waits) (lists-there q n) ∙ h.waits-is q l)

  pub changed : Kept x → ((a b : ℕ) → Seated a b (lists_at s p) → Seated a b x)
      → x.waits ≡ (lists_at s p).waits → (process_of x).board ≡ (process_at c p).board
      → Totalled t totals (with_process p (process_of x) c) → Holds t after entries (with_process p (process_of x) c)
  changed k stays stay e u = record {
    processes = processes_then;
    outboxes = h.outboxes;
    dead = h.dead;
    kept = kept_then k;
    seated = seated_then stays;
    first_small = h.first_small;
    count_small = h.count_small;
    totalled = u;
    waits-is = λ q l. waits_then stay q l ∙ ap (λ (b : ℕ). flag (waiting q (outbox_at c b))) (sym (board-stays e q));
    shape = record {
      processes-length = length-set s.processes p x ∙ h.shape.processes-length;
      queues-length = h.shape.queues-length;
      entries-length = h.shape.entries-length;
    };
  }

-- what a call on the process made of it, its mailbox and its board as they were
pub row_changed : {t : Table} {s : Store} {entries : List Entry} {c : Cabinet} (h : Holds t s entries c) (small : length t.processes ≤ 16)
    (p : ℕ) (hp : p < length t.processes) (x : code.Process) (change : Process → Process) → Became (lists_at s p) x change
    → (change (process_at c p)).board ≡ (process_at c p).board → (change (process_at c p)).machine.mailbox ≡ (process_at c p).machine.mailbox
    → Holds t (put_process s p x s.totals) entries (with_process p (change (process_at c p)) c)
row_changed {t} {s} {entries} {c} h small p hp x change b same-board same-mailbox =
    let is : process_of x ≡ change (process_at c p) = b.process-is ∙ ap change (sym (at_process h p hp)) in
    let u : Totalled t s.totals (with_process p (process_of x) c) =
    totalled-same h.totalled (occupancy-mailbox t c p (rw (how_many h) hp) (process_of x) (ap (λ (y : Process). y.machine.mailbox) is ∙ same-mailbox)) in
    let whole = changed h small p hp x s.totals b.kept_again b.seated_again b.waits_again (ap (λ (y : Process). y.board) is ∙ same-board) u in
    subst (λ (y : Process). Holds t (put_process s p x s.totals) entries (with_process p y c)) is whole
