-- A checkpoint or a state transfer of a process joins its board's queue, where none of it waits yet: what the store says of process, board and
-- queue, and the cabinet that it holds then.
use Rattle.std.proofs.Common.{◌≡◌, ℕ, suc, ◌<◌, Bool, true, false, ◌||◌, eqb, ◌≢◌, List, [], ◌∷◌, ◌++◌, length, get_or, set, sym, refl, ap, ◌∙◌, arith, get_or-set_other, get_or-set_same, eq-eqb, ne_eqb}
use mathlib.Core.Bool.{or-false, or-true, or_assoc}
use Rattle.facts.specs.Tests.{by_eq}
use Rattle.process.specs.declared.process.Process as code
use Rattle.process.specs.Row.{no_process, process_of, backed, waiting_in}
use Rattle.process.proofs.Processes.{protected-is}
use Rattle.rules.specs.Table.{Table}
use Rattle.rules.specs.Cabinet as rules
use Rattle.rules.specs.Cabinet.{is_waiter_of, Cabinet, Process, outbox_most, process_at, outbox_at, protected, waiting}
use Rattle.rules.specs.Moves.{enqueue}
use Rattle.rules.proofs.Counting.{weight, flight_joined}
use Rattle.state.specs.declared.entry.Entry.{Entry}
use Rattle.state.specs.declared.queue.Queue.{Queue}
use Rattle.state.specs.declared.store.Store.{Store}
use Rattle.state.specs.Queue.{no_queue, place_of, pushed_in}
use Rattle.state.specs.Queue.{first_in, count_in}
use Rattle.state.specs.Store.{item_of, flag, Holds, lists_at, process_in, outbox_in}
use Rattle.state.specs.Moved.{Reachable}
use Rattle.state.proofs.Flagging.{with_flag, flag_here, flag-there, flagged_one}
use Rattle.state.proofs.Reading.{at_process, at_outbox, how_many_boards}
use Rattle.state.proofs.Queueing.{QueueThen, put_queue, entry_joins}
use Rattle.state.proofs.Totals.{occupancy_outbox, totalled-same}
use Rattle.state.proofs.Reaching.{bounds, queue_length_lem}

-- what a Bool's number tells is the Bool
flag_told : (b : Bool) → waiting_in (flag b) ≡ b
flag_told true = refl
flag_told false = refl

module _ {t : Table} {s : Store} {entries : List Entry} {c : Cabinet} (reach : Reachable t c) (h : Holds t s entries c) (p : ℕ) (hp : p < length t.processes) where
  x_is : process_at c p ≡ process_in s p
  x_is = at_process h p hp

  pub is-protected : (b : Bool) → backed (lists_at s p).protection ≡ b → protected (process_at c p) ≡ b
  is-protected b e = ap protected x_is ∙ protected-is _ ∙ e

  pub board-is : (process_at c p).board ≡ (lists_at s p).board
  unfolding process_of
  board-is = ap (λ (x : Process). x.board) x_is

  pub board-there : (lists_at s p).board < t.boards
  board-there = rw (← board-is) (bounds reach p hp).board

  queue_is : outbox_at c (process_at c p).board ≡ outbox_in s.queues entries (lists_at s p).board
  queue_is = ap (outbox_at c) board-is ∙ at_outbox h (lists_at s p).board board-there

  pub queue_has : length (outbox_at c (process_at c p).board) ≡ count_in s.queues (lists_at s p).board
  queue_has = ap (λ (l : List _). length l) queue_is ∙ queue_length_lem s.queues entries (lists_at s p).board

  pub waits_so : (b : Bool) → waiting_in (lists_at s p).waits ≡ b → waiting p (outbox_at c (process_at c p).board) ≡ b
  waits_so b e = sym (flag_told _) ∙ ap waiting_in (sym (h.waits-is p hp)) ∙ e

-- ---- the entry joins

-- an entry of process p that waits is a checkpoint or a transfer of it, and no word
pub record Waiter (p : ℕ) (item : rules.Item) : Type 0 where
  pub its : (q : ℕ) → is_waiter_of q item ≡ eqb q p
  pub no_word : (k : ℕ) → weight k item ≡ 0

-- it waits in a queue that it joined, and whatever waited before waits still
waiting-joined : (q p : ℕ) (l : List rules.Item) (x : rules.Item) → Waiter p x → waiting q (l ++ (x ∷ [])) ≡ (waiting q l || eqb q p)
waiting-joined q p [] x w = rw (w.its q) (or-false (eqb q p))
waiting-joined q p (i ∷ l) x w = ap (λ (b : Bool). is_waiter_of q i || b) (waiting-joined q p l x w) ∙ sym (or_assoc (is_waiter_of q i) (waiting q l) (eqb q p))

module _ {t : Table} {s : Store} {entries : List Entry} {c : Cabinet} (reach : Reachable t c) (h : Holds t s entries c) (p : ℕ) (hp : p < length t.processes)
    (x : Entry) (waiter : Waiter p (item_of x.item)) (few : count_in s.queues (lists_at s p).board < outbox_most) where
  abbrev b : ℕ
  b = (lists_at s p).board

  hb : b < t.boards
  hb = board-there reach h p hp

  abbrev queue : Queue
  queue = get_or s.queues b no_queue

  -- the processes afterwards: something of p waits
  abbrev processes : List code.Process
  processes = with_flag s.processes p 1

  many : p < length s.processes
  many = let l = h.shape.processes-length in let z = reach.accepted.processes_high in omega arith

  waits_then : (q : ℕ) → q < length t.processes
      → (get_or processes q no_process).waits ≡ flag (waiting q (get_or (set c.outboxes b (outbox_at c b ++ (item_of x.item ∷ []))) (process_at c q).board []))
  waits_then q hq =
      let joined-q : List rules.Item = outbox_at c b ++ (item_of x.item ∷ []) in
      let there : b < length c.outboxes = rw (how_many_boards h) hb in
      let old = h.waits-is q hq in
      by_eq (process_at c q).board b
      (λ e. let same : get_or (set c.outboxes b joined-q) (process_at c q).board [] ≡ joined-q = rw e (get_or-set_same c.outboxes b joined-q [] there) in
      let now-waits : waiting q joined-q ≡ (waiting q (outbox_at c b) || eqb q p) = waiting-joined q p (outbox_at c b) (item_of x.item) waiter in
      by_eq q p
      (λ f. rw (same, now-waits, eq-eqb q p f, or-true) (rw f (flag_here s.processes p 1 many)))
      (λ n. rw (same, now-waits, ne_eqb q p n, or-false) (flag-there s.processes p q 1 n ∙ old ∙ ap (λ (i : ℕ). flag (waiting q (outbox_at c i))) e)))
      (λ n. let same : get_or (set c.outboxes b joined-q) (process_at c q).board [] ≡ outbox_at c (process_at c q).board = get_or-set_other c.outboxes b (process_at c q).board joined-q [] n in
      let other : q ≢ p = λ f. n (ap (λ (i : ℕ). (process_at c i).board) f ∙ board-is reach h p hp) in
      rw same (flag-there s.processes p q 1 other ∙ old))

  queue_then : QueueThen t s c b processes (pushed_in queue) s.totals (first_in s.queues b) (suc (count_in s.queues b))
      (outbox_at c b ++ (item_of x.item ∷ []))
  queue_then = record {
    is-first = refl;
    is-count = omega arith;
    is-dead = refl;
    totalled_then = totalled-same h.totalled (λ i.
        let a = flight_joined i c.outboxes b (item_of x.item) (rw (how_many_boards h) hb) in
        let d = waiter.no_word i in
        let e = occupancy_outbox t c b (outbox_at c b ++ (item_of x.item ∷ [])) i 0 0 (omega arith) in
        omega arith);
    flagged = flagged_one t s.processes p 1;
    waiting-there = waits_then;
  }

  -- the store then holds the rules' cabinet with the entry in the queue
  pub waiter_joins : Holds t (put_queue s b processes (pushed_in queue) s.totals) (set entries (place_of queue b) x) (enqueue b (item_of x.item) c)
  waiter_joins = entry_joins h reach.accepted.boards_high b hb processes (pushed_in queue) s.totals x few queue_then
