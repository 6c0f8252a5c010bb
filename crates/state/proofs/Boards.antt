-- One board's queue changes: what the queues then say of the rules' queues and of the dead boards.
use Rattle.std.proofs.Common.{◌≡◌, ℕ, ◌<◌, ◌≤◌, Bool, not, eqb, ◌≢◌, List, [], map, length, get_or, set, sym, refl, ap, ◌∙◌, arith, length-set, get_or-set_other, get_or-set_same}
use Rattle.facts.specs.Tests.{by_eq}
use Rattle.facts.specs.Lists.{listed}
use Rattle.facts.specs.Rings.{ring, listed-set}
use Rattle.rules.specs.Table.{Table}
use Rattle.rules.specs.Cabinet as rules
use Rattle.rules.specs.Cabinet.{Cabinet, outbox_most}
use Rattle.state.specs.declared.entry.Entry.{Entry}
use Rattle.state.specs.declared.queue.Queue.{Queue}
use Rattle.state.specs.declared.store.Store.{Store}
use Rattle.state.specs.Queue.{no_queue, first_in, count_in, is_dead, dead_in, reset_in}
use Rattle.state.specs.Store.{Holds, item_of, blank_entry, outbox_in}

-- what `Holds` says of the queues
pub record Boarded (t : Table) (queues : List Queue) (entries : List Entry) (outboxes : List (List rules.Item)) (dead : List Bool) : Type 0 where
  pub outboxes_are : outboxes ≡ listed (outbox_in queues entries) t.boards
  pub dead_are : dead ≡ listed (dead_in queues) t.boards
  pub first_small : (b : ℕ) → b < t.boards → first_in queues b < outbox_most
  pub count_small : (b : ℕ) → b < t.boards → count_in queues b ≤ outbox_most
  pub queues-length : length queues ≡ 16

-- What is known of a board's new queue, which is q then, and of the entries.
pub record RowThen (s : Store) (entries entries' : List Entry) (b : ℕ) (queue : Queue) (dead : Bool) (q : List rules.Item) : Type 0 where
  pub first_fits : queue.first < outbox_most
  pub count_fits : queue.count ≤ outbox_most
  pub is-dead : is_dead queue ≡ dead
  pub is_queue : map (λ (e : Entry). item_of e.item) (ring blank_entry entries' b queue.first queue.count) ≡ q
  pub others : (i : ℕ) → i ≢ b
      → ring blank_entry entries' i (first_in s.queues i) (count_in s.queues i) ≡ ring blank_entry entries i (first_in s.queues i) (count_in s.queues i)

module _ {t : Table} {s : Store} {entries : List Entry} {c : Cabinet} (h : Holds t s entries c) (small : t.boards ≤ 16) (b : ℕ) (hb : b < t.boards) where
  module _ {queue : Queue} {dead : Bool} {q : List rules.Item} {entries' : List Entry} (u : RowThen s entries entries' b queue dead q) where
    abbrev queues' : List Queue
    queues' = set s.queues b queue

    here : get_or queues' b no_queue ≡ queue
    here = get_or-set_same s.queues b queue no_queue (let l = h.shape.queues-length in omega arith)

    there : (i : ℕ) → i ≢ b → get_or queues' i no_queue ≡ get_or s.queues i no_queue
    there i n = get_or-set_other s.queues b i queue no_queue n

    outbox_here : outbox_in queues' entries' b ≡ q
    unfolding outbox_in
    outbox_here = rw (here, first_in, count_in) u.is_queue

    outbox_there : (i : ℕ) → i ≢ b → outbox_in queues' entries' i ≡ outbox_in s.queues entries i
    unfolding outbox_in
    outbox_there i n = rw (there i n, first_in, count_in) (ap (map (λ (e : Entry). item_of e.item)) (u.others i n))

    dead_here : dead_in queues' b ≡ dead
    dead_here = rw (here, dead_in) u.is-dead

    pub boards_then : Boarded t queues' entries' (set c.outboxes b q) (set c.dead b dead)
    boards_then = record {
      outboxes_are = ap (λ (l : List (List rules.Item)). set l b q) h.outboxes
          ∙ ap (λ (x : List rules.Item). set (listed (outbox_in s.queues entries) t.boards) b x) (sym outbox_here)
          ∙ sym (listed-set (outbox_in s.queues entries) (outbox_in queues' entries') t.boards b (λ i l n. outbox_there i n));
      dead_are = ap (λ (l : List Bool). set l b dead) h.dead
          ∙ ap (λ (x : Bool). set (listed (dead_in s.queues) t.boards) b x) (sym dead_here)
          ∙ sym (listed-set (dead_in s.queues) (dead_in queues') t.boards b (λ i l n. rw (there i n, dead_in)));
      first_small = λ i l. by_eq i b (λ e. rw (e, here, first_in) u.first_fits) (λ n. rw (there i n, first_in) (h.first_small i l));
      count_small = λ i l. by_eq i b (λ e. rw (e, here, count_in) u.count_fits) (λ n. rw (there i n, count_in) (h.count_small i l));
      queues-length = length-set s.queues b queue ∙ h.shape.queues-length;
    }

  -- its queue is empty then, and the board dead or live
  pub boards_emptied : (dead : ℕ)
      → Boarded t (set s.queues b (reset_in (get_or s.queues b no_queue) dead)) entries (set c.outboxes b []) (set c.dead b (not (eqb dead 0)))
  unfolding ring
  boards_emptied dead = boards_then (record {
    first_fits = h.first_small b hb;
    count_fits = omega arith;
    is-dead = refl;
    is_queue = refl;
    others = λ i n. refl;
  })
