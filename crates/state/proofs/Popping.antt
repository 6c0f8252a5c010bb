-- The oldest entry of a board's queue: whether there is one, and the queue when it has left.
use Rattle.std.proofs.Common.{◌≡◌, ℕ, suc, ◌+◌, ◌%◌, ◌^◌, ◌<◌, Bool, true, false, cond, eqb, ◌≢◌, List, get_or, refl, arith, eq-eqb, eqb-true, Some, None}
use Rattle.rules.specs.Table.{Table}
use Rattle.rules.specs.Cabinet.{Cabinet}
use Rattle.state.specs.declared.entry.Entry.{Entry}
use Rattle.state.specs.declared.entry.Item.{Item}
use Rattle.state.specs.declared.queue.Queue.{Queue}
use Rattle.state.specs.declared.store.Store.{Store}
use Rattle.state.specs.Queue.{no_queue, count_in, front_of, less_by, popped_in, Popped}
use Rattle.state.specs.Store.{Holds}

-- ---- what stands in front

pub front-none : (queue : Queue) (x : Entry) → front_of queue x ≡ None → queue.count ≡ 0
front-none queue x e = go (eqb queue.count 0) refl e
  where
    go : (b : Bool) → eqb queue.count 0 ≡ b → cond b None (Some x.item) ≡ None → queue.count ≡ 0
    go true f g = eqb-true queue.count 0 f
    go false f g = cc

pub front-some : (queue : Queue) (x : Entry) (i : Item) → front_of queue x ≡ Some i → (queue.count ≢ 0) × (x.item ≡ i)
front-some queue x i e = go (eqb queue.count 0) refl e
  where
    go : (b : Bool) → eqb queue.count 0 ≡ b → cond b None (Some x.item) ≡ Some i → (queue.count ≢ 0) × (x.item ≡ i)
    go true f g = absurd (cc)
    go false f g = ((λ z. let a = eq-eqb queue.count 0 z in cc), (cc))

-- ---- it leaves

-- a number less another, in 32 bits
pub less_by_lem : (x y less : ℕ) → (less + y) % 2 ^ 32 ≡ x → less < 2 ^ 32 → y < 2 ^ 32 → less ≡ less_by x y
less_by_lem x y less e l h = omega arith

-- the queue with another first place and count
abbrev pub placed : Queue → ℕ → ℕ → Queue
placed queue first count = record { first = first; count = count; dead = queue.dead }

pub popped : (queue : Queue) (more less : ℕ) → more ≡ (queue.first + 1) % 2 ^ 32 → (less + 1) % 2 ^ 32 ≡ queue.count → less < 2 ^ 32
    → placed queue (more % 32) less ≡ popped_in queue
popped queue more less e f l =
    let a : more % 32 ≡ (queue.first + 1) % 32 = omega arith in
    let b : less ≡ less_by queue.count 1 = less_by_lem queue.count 1 less f l (omega arith) in
    λ k. placed queue (a k) (b k)

-- of a store that holds a cabinet, where the queue had an entry
pub row_then : {t : Table} {s : Store} {entries : List Entry} {c : Cabinet} → Holds t s entries c → (b : ℕ) → b < t.boards → (count : ℕ)
    → count_in s.queues b ≡ suc count → Popped (get_or s.queues b no_queue) (popped_in (get_or s.queues b no_queue))
row_then h b hb count e = let few = h.count_small b hb in record { first-is = refl; count-is = omega arith; dead-is = refl }
