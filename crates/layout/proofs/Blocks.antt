-- The parts of a process and of a board, laid one behind the other.
use mathlib.Core.Path.{◌≡◌, refl, ap, ◌∙◌}
use mathlib.Core.Bool.{cond}
use mathlib.Core.List.{List, [], ◌∷◌, ◌++◌}
use Prim.Native.Nat.{ℕ, ◌+◌}
use native.Mathlib.Omega.{arith}
use lib.ListN.{length, get_or, length-append}
use lib.Seq.{sets}
use Rattle.facts.specs.Laying.{sets_more}
use Rattle.backup.specs.Limits.{log_most}
use Rattle.process.specs.declared.process.Process.{Process}
use Rattle.rules.specs.Sizes.{outbox_most}
use Rattle.state.specs.declared.entry.Entry.{Entry}
use Rattle.state.specs.declared.entry.Item.TheVariants.{Word}
use Rattle.state.specs.declared.queue.Queue.{Queue}
use Rattle.state.specs.Queue.{is_dead}
use Rattle.state.specs.Store.{blank_entry}
use Rattle.layout.specs.View.{each}
use Rattle.layout.specs.Lists.{process_for, queue_for, machine_in, inbox_at, backup_in, saved_at, process_numbers_in, entry_place, entry_at, board_numbers_in}
use Rattle.layout.specs.Lists.{process_block, board_block}
use Rattle.layout.proofs.Laying.{each-length}
use Rattle.layout.proofs.Widths.{unread_two, saved_two, backup_nine, entry_thirteen}

-- ---- a process

module _ (x : Process) (out₀ : List ℕ) (at : ℕ) where
  pub process_laid : (out₁ out₂ out₃ out₄ m b : List ℕ) → m ≡ machine_in x → out₁ ≡ sets out₀ at m
      → out₂ ≡ sets out₁ (at + 14) (each (inbox_at x) log_most)
      → b ≡ backup_in x → out₃ ≡ sets out₂ (at + 142) b
      → out₄ ≡ sets out₃ (at + 151) (each (saved_at x) log_most)
      → out₄ ≡ sets out₀ at (process_numbers_in x)
  unfolding process_numbers_in
  process_laid out₁ out₂ out₃ out₄ m b is_m e₁ e₂ is_b e₃ e₄ =
      let inbox : List ℕ = each (inbox_at x) log_most in
      let saved : List ℕ = each (saved_at x) log_most in
      let i : length inbox ≡ 128 = each-length (inbox_at x) 2 log_most (unread_two x) in
      let n : length (backup_in x) ≡ 9 = backup_nine x in
      let f₁ = e₁ ∙ ap (λ (l : List ℕ). sets out₀ at l) is_m in
      let f₃ = e₃ ∙ ap (λ (l : List ℕ). sets out₂ (at + 142) l) is_b in
      -- from the back to the front
      e₄
      ∙ ap (λ (l : List ℕ). sets l (at + 151) saved) f₃
      ∙ sets_more (backup_in x) saved out₂ (at + 142) (at + 151) (omega arith)
      ∙ ap (λ (l : List ℕ). sets l (at + 142) (backup_in x ++ saved)) e₂
      ∙ sets_more inbox (backup_in x ++ saved) out₁ (at + 14) (at + 142) (omega arith)
      ∙ ap (λ (l : List ℕ). sets l (at + 14) (inbox ++ (backup_in x ++ saved))) f₁
      ∙ sets_more (machine_in x) (inbox ++ (backup_in x ++ saved)) out₀ at (at + 14) refl

  pub process_wide : length (process_numbers_in x) ≡ 279
  unfolding process_numbers_in
  process_wide =
      let inbox : List ℕ = each (inbox_at x) log_most in
      let saved : List ℕ = each (saved_at x) log_most in
      let i : length inbox ≡ 128 = each-length (inbox_at x) 2 log_most (unread_two x) in
      let s : length saved ≡ 128 = each-length (saved_at x) 2 log_most (saved_two x) in
      let n : length (backup_in x) ≡ 9 = backup_nine x in
      let a = length-append (machine_in x) (inbox ++ (backup_in x ++ saved)) in
      let b = length-append inbox (backup_in x ++ saved) in
      let c = length-append (backup_in x) saved in
      omega arith

-- ---- a board

module _ (queue : Queue) (entries : List Entry) (b : ℕ) where
  -- the numbers of entry i
  unfoldable pub entry_in : ℕ → List ℕ
  unfolding blank_entry
  entry_in i = entry_at queue (get_or entries (entry_place queue b i) blank_entry) i

  pub entry_wide : (i : ℕ) → length (entry_in i) ≡ 13
  unfolding entry_in
  entry_wide i = entry_thirteen queue (get_or entries (entry_place queue b i) blank_entry) i

  pub entry_is : (i k : ℕ) → k ≡ entry_place queue b i → entry_at queue (get_or entries k (record { item = Word 0 0 0 })) i ≡ entry_in i
  unfolding entry_in blank_entry
  entry_is i k e = ap (λ (n : ℕ). entry_at queue (get_or entries n (record { item = Word 0 0 0 })) i) e

  pub board_laid : (out₀ : List ℕ) (at : ℕ) (out₁ out₂ : List ℕ) (d : ℕ) → d ≡ cond (is_dead queue) 1 0
      → out₁ ≡ sets out₀ at (d ∷ queue.count ∷ []) → out₂ ≡ sets out₁ (at + 2) (each entry_in outbox_most)
      → out₂ ≡ sets out₀ at (board_numbers_in queue entries b)
  unfolding board_numbers_in entry_in
  board_laid out₀ at out₁ out₂ d is-d e₁ e₂ =
      e₂
      ∙ ap (λ (x : List ℕ). sets x (at + 2) (each entry_in outbox_most)) e₁
      ∙ sets_more (d ∷ queue.count ∷ []) (each entry_in outbox_most) out₀ at (at + 2) refl
      ∙ ap (λ (n : ℕ). sets out₀ at (n ∷ queue.count ∷ each entry_in outbox_most)) is-d

  pub board_wide : length (board_numbers_in queue entries b) ≡ 418
  unfolding board_numbers_in entry_in
  board_wide = let e = each-length entry_in 13 outbox_most entry_wide in omega arith

-- ---- by their numbers, zeros for those that the table doesn't have

module _ (count : ℕ) (processes : List Process) (p : ℕ) where
  pub process_block_wide : length (process_block count processes p) ≡ 279
  unfolding process_block
  process_block_wide = process_wide (process_for processes count p) [] 0

  pub process_block_is : (x : Process) → x ≡ process_for processes count p → process_numbers_in x ≡ process_block count processes p
  unfolding process_block
  process_block_is x e = ap process_numbers_in e

module _ (boards : ℕ) (queues : List Queue) (entries : List Entry) (b : ℕ) where
  pub board_block_wide : length (board_block boards queues entries b) ≡ 418
  unfolding board_block
  board_block_wide = board_wide (queue_for queues boards b) entries b

  pub board_block_is : (queue : Queue) → queue ≡ queue_for queues boards b → board_numbers_in queue entries b ≡ board_block boards queues entries b
  unfolding board_block
  board_block_is queue e = ap (λ (x : Queue). board_numbers_in x entries b) e
