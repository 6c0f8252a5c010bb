-- A board's queue: its ring's first place, its count, and whether the board is dead (1) or live (0); and what is done to it.
use Rattle.std.specs.Prelude.{◌≡◌, ℕ, suc, ◌+◌, ◌-◌, ◌*◌, ◌%◌, ◌^◌, Bool, not, cond, eqb, List, ◌==◌, slice_index_or, Option, Some, None}
use Rattle.rules.specs.Sizes.{outbox_most}
use Rattle.state.specs.declared.entry.Entry.{Entry}
use Rattle.state.specs.declared.entry.Item.{Item}
use Rattle.state.specs.declared.queue.Queue.{Queue}

-- of a live board, with no entry; and what stands past the end of a list of them
abbrev pub no_queue : Queue
no_queue = record { first = 0; count = 0; dead = 0 }

-- of board b
abbrev pub first_in : List Queue → ℕ → ℕ
first_in queues b = (slice_index_or queues b no_queue).first

abbrev pub count_in : List Queue → ℕ → ℕ
count_in queues b = (slice_index_or queues b no_queue).count

-- any number but 0 stands for a dead board
abbrev pub is_dead : Queue → Bool
is_dead queue = not (eqb queue.dead 0)

abbrev pub dead_in : List Queue → ℕ → Bool
dead_in queues b = is_dead (slice_index_or queues b no_queue)

-- where the entry that joins board b's queue next is put
abbrev pub place_of : Queue → ℕ → ℕ
place_of queue b = outbox_most * b + (queue.first + queue.count) % outbox_most

-- the queue after an entry joined
abbrev pub pushed_in : Queue → Queue
pushed_in queue = record { first = queue.first; count = (queue.count + 1) % 2 ^ 32; dead = queue.dead }

-- where board b's oldest entry stands, if it has one
abbrev pub oldest_of : Queue → ℕ → ℕ
oldest_of queue b = outbox_most * b + queue.first % outbox_most

-- "Carry looks at the oldest entry; with none the answer is 42."
abbrev pub front_of : Queue → Entry → Option Item
front_of queue oldest = cond (queue.count == 0) None (Some oldest.item)

-- a number less another, in 32 bits
abbrev pub less_by : ℕ → ℕ → ℕ
less_by x y = (x + (2 ^ 32 - y)) % 2 ^ 32

-- the queue after the oldest left
abbrev pub popped_in : Queue → Queue
popped_in queue = record { first = (queue.first + 1) % outbox_most; count = less_by queue.count 1; dead = queue.dead }

-- the queue before and after it, of one that had an entry
pub record Popped (queue queue' : Queue) : Type 0 where
  pub first-is : queue'.first ≡ (queue.first + 1) % outbox_most
  pub count-is : suc queue'.count ≡ queue.count
  pub dead-is : queue'.dead ≡ queue.dead

-- the queue of a board that has no entry left and is dead (1), or live (0)
abbrev pub reset_in : Queue → ℕ → Queue
reset_in queue dead = record { first = queue.first; count = 0; dead = dead }
