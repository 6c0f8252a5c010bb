-- A checkpoint or a state transfer is the oldest entry of a queue and leaves it, once its process has changed: none of its process waits any more.
use Rattle.std.proofs.Common.{◌≡◌, ℕ, suc, ◌+◌, ◌*◌, ◌%◌, ◌<◌, Bool, false, ◌||◌, List, [], ◌∷◌, map, length, get_or, set, sym, refl, ap, ◌∙◌, arith, length-set, get_or-set_other, get_or-set_same, eq-eqb, ne_eqb}
use Rattle.facts.specs.Tests.{by_eq}
use Rattle.facts.specs.Rings.{ring, ring_pop}
use Rattle.process.specs.declared.process.Process as code
use Rattle.process.specs.Row.{no_process}
use Rattle.rules.specs.Table.{Table}
use Rattle.rules.specs.Cabinet as rules
use Rattle.rules.specs.Cabinet.{Cabinet, Process, nobody, process_at, outbox_at, waiting}
use Rattle.rules.specs.Moves.{with_process, with_outbox}
use Rattle.rules.proofs.Counting.{flight_leave}
use Rattle.state.specs.declared.entry.Entry.{Entry}
use Rattle.state.specs.declared.queue.Queue.{Queue}
use Rattle.state.specs.declared.store.Store.{Store}
use Rattle.state.specs.Queue.{no_queue, first_in, count_in, Popped}
use Rattle.state.specs.Store.{flag, Holds, item_of, blank_entry, outbox_in}
use Rattle.state.specs.Moved.{Reachable}
use Rattle.state.proofs.Reading.{at_outbox, how_many, how_many_boards}
use Rattle.state.proofs.Flagging.{with_flag, flag_here, flag-there, flagged_one}
use Rattle.state.proofs.Queueing.{put_queue, QueueThen, entry_leaves}
use Rattle.state.proofs.Totals.{occupancy_outbox, totalled-same}
use Rattle.state.proofs.Joining.{Waiter}
use Rattle.state.proofs.Waits.{one_waits}
use Rattle.bus.specs.Parts.{OnlyProcesses}

-- the oldest entry, if the rules' queue has one, is the one at the ring's first place
pub oldest-is : {t : Table} {s : Store} {entries : List Entry} {c : Cabinet} (h : Holds t s entries c) (b : ℕ) → b < t.boards
    → (count : ℕ) (item : rules.Item) (rest : List rules.Item) → count_in s.queues b ≡ suc count → outbox_at c b ≡ item ∷ rest
    → outbox_at c b ≡ item_of (get_or entries (32 * b + first_in s.queues b % 32) blank_entry).item ∷ rest
unfolding outbox_in
oldest-is {s = s} {entries = entries} h b hb count item rest e o =
    let first : ℕ = first_in s.queues b in
    let a = at_outbox h b hb in
    let d = ap (λ (n : ℕ). map (λ (x : Entry). item_of x.item) (ring blank_entry entries b first n)) e in
    let f = ap (map (λ (x : Entry). item_of x.item)) (ring_pop blank_entry entries b first count) in
    let same : item ≡ item_of (get_or entries (32 * b + first % 32) blank_entry).item = cc in
    o ∙ ap (λ (i : rules.Item). i ∷ rest) same

-- process p is x, and nothing of it waits
abbrev pub at_rest : Store → ℕ → code.Process → Store
at_rest s p x = record { processes = with_flag (set s.processes p x) p 0; queues = s.queues; totals = s.totals }

pub only_rests : (s : Store) (p : ℕ) (x : code.Process) → OnlyProcesses s (at_rest s p x)
only_rests s p x = record { processes-same = length-set (set s.processes p x) p _ ∙ length-set s.processes p x; queues-is = refl; totals-is = refl }

-- of a cabinet that was reached, process p is x by now
module _ {t : Table} {s : Store} {entries : List Entry} {c : Cabinet} (reach : Reachable t c) (p : ℕ) (x : Process)
    (h : Holds t s entries (with_process p x c)) (b : ℕ) (hb : b < t.boards) (item : rules.Item) (waiter : Waiter p item) (rest : List rules.Item)
    (oldest : outbox_at c b ≡ item ∷ rest) (its_process : p < length t.processes) (runs : x.board ≡ b)
    (queue' : Queue) (popped : Popped (get_or s.queues b no_queue) queue') where
  abbrev now : Cabinet
  now = with_process p x c

  -- nothing of p waits by then
  abbrev processes' : List code.Process
  processes' = with_flag s.processes p 0

  there : b < length c.outboxes
  there = rw (how_many_boards h) hb

  runs-there : (process_at now p).board ≡ b
  runs-there =
      ap (λ (y : Process). y.board) (get_or-set_same c.processes p x nobody
      (let a = how_many h in let l = length-set c.processes p x in omega arith))
      ∙ runs

  -- what waits afterwards
  waits_then : (q : ℕ) → q < length t.processes
      → (get_or processes' q no_process).waits ≡ flag (waiting q (get_or (set c.outboxes b rest) (process_at now q).board []))
  waits_then q hq =
      let old = h.waits-is q hq in
      by_eq q p
      (λ f. let same : get_or (set c.outboxes b rest) (process_at now q).board [] ≡ rest =
      ap (λ (i : ℕ). get_or (set c.outboxes b rest) i []) (ap (λ (j : ℕ). (process_at now j).board) f ∙ runs-there)
      ∙ get_or-set_same c.outboxes b rest [] there in
      let none_left : waiting q rest ≡ false = rw f (one_waits reach b p item rest oldest (waiter.its p ∙ eq-eqb p p refl)) in
      rw (same, none_left)
      (rw f (flag_here s.processes p 0 (let l = h.shape.processes-length in let z = reach.accepted.processes_high in omega arith))))
      (λ n. by_eq (process_at now q).board b
      (λ e. let same : get_or (set c.outboxes b rest) (process_at now q).board [] ≡ rest = rw e (get_or-set_same c.outboxes b rest [] there) in
      let before : waiting q (outbox_at c b) ≡ waiting q rest =
      ap (waiting q) oldest ∙ ap (λ (y : Bool). y || waiting q rest) (waiter.its q ∙ ne_eqb q p n) in
      rw same (flag-there s.processes p q 0 n ∙ old ∙ ap (λ (i : ℕ). flag (waiting q (outbox_at c i))) e ∙ ap flag before))
      (λ m. rw (get_or-set_other c.outboxes b (process_at now q).board rest [] m) (flag-there s.processes p q 0 n ∙ old)))

  queue_then : QueueThen t s now b processes' queue' s.totals ((first_in s.queues b + 1) % 32) queue'.count rest
  queue_then = record {
    is-first = popped.first-is;
    is-count = refl;
    is-dead = popped.dead-is;
    totalled_then = totalled-same h.totalled (λ i.
        let a = flight_leave i c.outboxes b item rest oldest in
        let w = waiter.no_word i in
        let d = occupancy_outbox t now b rest i 0 0 (omega arith) in
        omega arith);
    flagged = flagged_one t s.processes p 0;
    waiting-there = waits_then;
  }

  -- the store then holds that cabinet without the entry
  pub waiter_leaves : Holds t (put_queue s b processes' queue' s.totals) entries (with_outbox b rest now)
  waiter_leaves =
      let count-is : count_in s.queues b ≡ suc queue'.count = sym popped.count-is in
      entry_leaves h reach.accepted.boards_high b hb processes' queue' s.totals queue'.count rest count-is
      (oldest-is h b hb queue'.count item rest count-is oldest) queue_then
