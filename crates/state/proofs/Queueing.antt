-- An entry joins the queue of a board, or the oldest leaves it: the cabinet then held.
use Rattle.std.proofs.Common.{◌≡◌, ℕ, suc, ◌+◌, ◌*◌, ◌%◌, ◌<◌, ◌≤◌, false, not, eqb, ◌≢◌, List, [], ◌∷◌, ◌++◌, map, length, get_or, set, sym, refl, ap, ◌∙◌, arith, length-set}
use mathlib.Core.List.{map-append}
use lib.Seq.{set-get_or}
use Rattle.facts.specs.Lists.{listed_same}
use Rattle.facts.specs.Rings.{ring, ring_push, ring-apart, ring_pop}
use Rattle.rules.specs.Table.{Table}
use Rattle.rules.specs.Cabinet as rules
use Rattle.rules.specs.Cabinet.{Cabinet, outbox_most, process_at, outbox_at, dead_at, waiting}
use Rattle.rules.specs.Moves.{with_outbox, enqueue}
use Rattle.state.specs.declared.entry.Entry.{Entry}
use Rattle.state.specs.declared.queue.Queue.{Queue}
use Rattle.state.specs.declared.store.Store.{Store}
use Rattle.state.specs.Queue.{no_queue, first_in, count_in}
use Rattle.state.specs.Store.{flag, Totalled, Holds, process_in, item_of, blank_entry, outbox_in}
use Rattle.process.specs.declared.process.Process as code
use Rattle.process.specs.Row.{no_process}
use Rattle.state.proofs.Flagging.{Flagged}
use Rattle.state.proofs.Reading.{at_outbox, at_dead}
use Rattle.state.proofs.Boards.{Boarded, RowThen, boards_then}

-- the store with the processes, board b's queue and the totals replaced
abbrev pub put_queue : Store → ℕ → List code.Process → Queue → List ℕ → Store
put_queue s b processes queue totals = record { processes = processes; queues = set s.queues b queue; totals = totals }

abbrev items : List Entry → List rules.Item
items l = map (λ (e : Entry). item_of e.item) l

-- What is known of the processes, of a board's new queue and of the totals, where the queue becomes q.
pub record QueueThen (t : Table) (s : Store) (c : Cabinet) (b : ℕ) (processes : List code.Process) (queue : Queue) (totals : List ℕ) (first count : ℕ)
    (q : List rules.Item) : Type 0 where
  pub is-first : queue.first ≡ first
  pub is-count : queue.count ≡ count
  pub is-dead : queue.dead ≡ (get_or s.queues b no_queue).dead
  pub totalled_then : Totalled t totals (with_outbox b q c)
  pub flagged : Flagged t s.processes processes
  pub waiting-there : (p : ℕ) → p < length t.processes
      → (get_or processes p no_process).waits ≡ flag (waiting p (get_or (set c.outboxes b q) (process_at c p).board []))

module _ {t : Table} {s : Store} {entries : List Entry} {c : Cabinet} (h : Holds t s entries c) (small : t.boards ≤ 16) (b : ℕ) (hb : b < t.boards)
    (processes : List code.Process) (queue : Queue) (totals : List ℕ) (first count : ℕ) (q : List rules.Item) (entries' : List Entry)
    (u : QueueThen t s c b processes queue totals first count q)
    (first_fits : first < outbox_most) (count_fits : count ≤ outbox_most) (long : length entries' ≡ 512)
    (is_queue : items (ring blank_entry entries' b first count) ≡ q)
    (others : (i : ℕ) → i ≢ b → ring blank_entry entries' i (first_in s.queues i) (count_in s.queues i) ≡ ring blank_entry entries i (first_in s.queues i) (count_in s.queues i)) where
  -- the board is as dead or live as it was
  row_then : RowThen s entries entries' b queue (dead_at c b) q
  row_then = record {
    first_fits = rw u.is-first first_fits;
    count_fits = rw u.is-count count_fits;
    is-dead = ap (λ (d : ℕ). not (eqb d 0)) u.is-dead ∙ sym (at_dead h b hb);
    is_queue = rw (u.is-first, u.is-count) is_queue;
    others = others;
  }

  boards : Boarded t (set s.queues b queue) entries' (set c.outboxes b q) c.dead
  boards = rw (set-get_or c.dead b false) at (boards_then h small b hb row_then)

  pub requeued : Holds t (put_queue s b processes queue totals) entries' (with_outbox b q c)
  requeued = record {
    processes = h.processes ∙ listed_same (process_in s) (process_in (put_queue s b processes queue totals)) (length t.processes)
        (λ p l. sym (u.flagged.alike p l).process-is);
    outboxes = boards.outboxes_are;
    dead = boards.dead_are;
    kept = λ p l. (u.flagged.alike p l).kept_again (h.kept p l);
    seated = λ p l. (u.flagged.alike p l).seated_again _ _ (h.seated p l);
    first_small = boards.first_small;
    count_small = boards.count_small;
    totalled = u.totalled_then;
    waits-is = u.waiting-there;
    shape = record {
      processes-length = u.flagged.same_length ∙ h.shape.processes-length;
      queues-length = boards.queues-length;
      entries-length = long;
    };
  }

module _ {t : Table} {s : Store} {entries : List Entry} {c : Cabinet} (h : Holds t s entries c) (small : t.boards ≤ 16) (b : ℕ) (hb : b < t.boards)
    (processes : List code.Process) (queue : Queue) (totals : List ℕ) where
  -- an entry joins: at the place behind the newest
  pub entry_joins : (x : Entry) → count_in s.queues b < outbox_most
      → QueueThen t s c b processes queue totals (first_in s.queues b) (suc (count_in s.queues b)) (outbox_at c b ++ (item_of x.item ∷ []))
      → Holds t (put_queue s b processes queue totals) (set entries (32 * b + (first_in s.queues b + count_in s.queues b) % 32) x) (enqueue b (item_of x.item) c)
  unfolding outbox_in
  entry_joins x few u =
      let room : 32 * b + 32 ≤ length entries = (let l = h.shape.entries-length in omega arith) in
      requeued h small b hb processes queue totals (first_in s.queues b) (suc (count_in s.queues b)) (outbox_at c b ++ (item_of x.item ∷ []))
      (set entries (32 * b + (first_in s.queues b + count_in s.queues b) % 32) x) u (h.first_small b hb) few (length-set entries _ x ∙ h.shape.entries-length)
      (ap items (ring_push blank_entry entries b (first_in s.queues b) (count_in s.queues b) x few room)
      ∙ map-append (λ (e : Entry). item_of e.item) (ring blank_entry entries b (first_in s.queues b) (count_in s.queues b)) (x ∷ [])
      ∙ ap (λ (l : List rules.Item). l ++ (item_of x.item ∷ [])) (sym (at_outbox h b hb)))
      (λ i n. ring-apart blank_entry entries b (first_in s.queues b) (count_in s.queues b) x few room i (first_in s.queues i) (count_in s.queues i) n)

  -- the oldest leaves
  pub entry_leaves : (count : ℕ) (rest : List rules.Item) → count_in s.queues b ≡ suc count
      → outbox_at c b ≡ item_of (get_or entries (32 * b + first_in s.queues b % 32) blank_entry).item ∷ rest
      → QueueThen t s c b processes queue totals ((first_in s.queues b + 1) % 32) count rest
      → Holds t (put_queue s b processes queue totals) entries (with_outbox b rest c)
  unfolding outbox_in
  entry_leaves count rest e o u =
      requeued h small b hb processes queue totals ((first_in s.queues b + 1) % 32) count rest entries u (omega arith) (let l = h.count_small b hb in omega arith) h.shape.entries-length
      (let a : items (ring blank_entry entries b (first_in s.queues b) (suc count)) ≡ item_of (get_or entries (32 * b + first_in s.queues b % 32) blank_entry).item ∷ rest =
      ap (λ (n : ℕ). items (ring blank_entry entries b (first_in s.queues b) n)) (sym e) ∙ sym (at_outbox h b hb) ∙ o in
      let d = ap items (ring_pop blank_entry entries b (first_in s.queues b) count) in
      cc)
      (λ i n. refl)
