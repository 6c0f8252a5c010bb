-- The numbers of a board's queue and of the entries are those of the board that they stand for.
use mathlib.Core.Path.{◌≡◌, refl, ap, sym, ◌∙◌}
use mathlib.Core.Bool.{cond}
use mathlib.Core.List.{List, [], ◌∷◌, map}
use Prim.Native.Nat.{ℕ}
use lib.ListN.{length, get_or, length-map}
use Rattle.facts.specs.Lists.{listed, map-listed}
use Rattle.facts.specs.Rings.{ring, listed-length}
use Rattle.rules.specs.Sizes.{outbox_most}
use Rattle.rules.specs.Cabinet.{Item}
use Rattle.state.specs.declared.entry.Entry.{Entry}
use Rattle.state.specs.declared.queue.Queue.{Queue}
use Rattle.state.specs.Queue.{no_queue, is_dead}
use Rattle.state.specs.Store.{item_of, blank_entry}
use Rattle.layout.specs.View.{each, item_numbers, no_item, queue_numbers, board_numbers}
use Rattle.layout.specs.Lists.{entry_place, entry_at, board_numbers_in}
use Rattle.layout.proofs.Laying.{each_same}
use Rattle.layout.proofs.OfProcess.{get_or_chosen}

module _ (queue : Queue) (entries : List Entry) (b : ℕ) where
  -- its queue
  unfoldable pub queue_of : List Item
  unfolding blank_entry ring
  queue_of = map (λ (e : Entry). item_of e.item) (ring blank_entry entries b queue.first queue.count)

  queue_long : length queue_of ≡ queue.count
  unfolding queue_of ring
  queue_long = length-map (ring blank_entry entries b queue.first queue.count) (λ (e : Entry). item_of e.item) ∙ listed-length _ queue.count

  -- the numbers of each entry
  numbers-listed : map item_numbers queue_of ≡ listed (λ i. item_numbers (item_of (get_or entries (entry_place queue b i) blank_entry).item)) queue.count
  unfolding queue_of ring
  numbers-listed =
      ap (map item_numbers) (map-listed (λ (e : Entry). item_of e.item) (λ i. get_or entries (entry_place queue b i) blank_entry) queue.count)
      ∙ map-listed item_numbers (λ i. item_of (get_or entries (entry_place queue b i) blank_entry).item) queue.count

  entries_are : each (λ i. entry_at queue (get_or entries (entry_place queue b i) blank_entry) i) outbox_most ≡ queue_numbers queue_of
  unfolding queue_numbers
  entries_are =
      each_same _ _ outbox_most (λ i l.
      get_or_chosen (λ (x : List ℕ). x) (λ i. item_numbers (item_of (get_or entries (entry_place queue b i) blank_entry).item)) queue.count i no_item
      ∙ ap (λ (x : List (List ℕ)). get_or x i no_item) (sym numbers-listed))

  pub board-is : board_numbers_in queue entries b ≡ board_numbers (is_dead queue) queue_of
  unfolding board_numbers_in board_numbers
  board-is = λ j. cond (is_dead queue) 1 0 ∷ sym queue_long j ∷ entries_are j

-- the queue of a board that the table doesn't have
pub no_board-is : (entries : List Entry) (b : ℕ) → queue_of no_queue entries b ≡ []
unfolding queue_of ring
no_board-is entries b = refl
