-- The whole view: its parts laid one behind the other, and that they are those of the cabinet that the store holds.
use mathlib.Core.Path.{◌≡◌, refl, ap, sym, ◌∙◌}
use mathlib.Core.Bool.{Bool, false, cond}
use mathlib.Core.List.{List, [], ◌∷◌, ◌++◌}
use Prim.Native.Nat.{ℕ}
use native.Mathlib.Omega.{arith}
use lib.ListN.{length, get_or, length-append, get_or-eq_default}
use lib.Seq.{sets}
use borrow.Author.Tests.{lt-ltb, le-ltb}
use Rattle.facts.specs.Tests.{by_lt}
use Rattle.facts.specs.Rings.{listed-length}
use Rattle.facts.specs.Laying.{sets_more}
use Rattle.plan.specs.declared.Counts.{Counts}
use Rattle.plan.specs.Plan.{Plan, Planned}
use Rattle.process.specs.Row.{zero_process}
use Rattle.rules.specs.Sizes.{boards_most, processes_most, channels_most}
use Rattle.rules.specs.Table.{Table}
use Rattle.rules.specs.Judge.{Accepted}
use Rattle.rules.specs.Cabinet.{Cabinet, nobody, process_at, outbox_at, dead_at}
use Rattle.state.specs.declared.entry.Entry.{Entry}
use Rattle.state.specs.declared.store.Store.{Store}
use Rattle.state.specs.Queue.{no_queue, dead_in}
use Rattle.state.specs.Store.{Holds, lists_at, outbox_in}
use Rattle.state.proofs.Reading.{at_process, at_outbox, at_dead, how_many, how_many_boards}
use Rattle.layout.specs.View.{each, process_numbers, board_numbers, total_number, processes_numbers, boards_numbers, totals_numbers, view, view_most}
use Rattle.layout.specs.Lists.{short, process_block, board_block, total_block, view_of, process_numbers_in, board_numbers_in}
use Rattle.layout.proofs.Laying.{each-length, each_same}
use Rattle.layout.proofs.Blocks.{process_block_wide, board_block_wide}
use Rattle.layout.proofs.OfProcess.{process-is, nobody-is}
use Rattle.layout.proofs.OfBoard.{queue_of, board-is, no_board-is}

-- ---- laid one behind the other

module _ (counts : Counts) (s : Store) (entries : List Entry) (out₀ : List ℕ) where
  abbrev processes_in : List ℕ
  processes_in = each (process_block counts.processes s.processes) processes_most

  abbrev boards_in : List ℕ
  boards_in = each (board_block counts.boards s.queues entries) boards_most

  abbrev totals_in : List ℕ
  totals_in = each (total_block counts.channels s.totals) channels_most

  pub view_laid : (out₁ out₂ out₃ out₄ : List ℕ) (x y z : ℕ) → x ≡ short counts.boards → y ≡ short counts.processes → z ≡ short counts.channels
      → out₁ ≡ sets out₀ 0 (x ∷ y ∷ z ∷ []) → out₂ ≡ sets out₁ 3 processes_in → out₃ ≡ sets out₂ 4467 boards_in → out₄ ≡ sets out₃ 11155 totals_in
      → out₄ ≡ sets out₀ 0 (view_of counts s entries)
  unfolding view_of
  view_laid out₁ out₂ out₃ out₄ x y z is_x is_y is-z e₁ e₂ e₃ e₄ =
      let p : length processes_in ≡ 4464 = each-length (process_block counts.processes s.processes) 279 processes_most
      (process_block_wide counts.processes s.processes) in
      let b : length boards_in ≡ 6688 = each-length (board_block counts.boards s.queues entries) 418 boards_most (board_block_wide counts.boards s.queues entries) in
      let f₁ = e₁ ∙ (λ j. sets out₀ 0 (is_x j ∷ is_y j ∷ is-z j ∷ [])) in
      e₄
      ∙ ap (λ (l : List ℕ). sets l 11155 totals_in) e₃
      ∙ sets_more boards_in totals_in out₂ 4467 11155 (omega arith)
      ∙ ap (λ (l : List ℕ). sets l 4467 (boards_in ++ totals_in)) e₂
      ∙ sets_more processes_in (boards_in ++ totals_in) out₁ 3 4467 (omega arith)
      ∙ ap (λ (l : List ℕ). sets l 3 (processes_in ++ (boards_in ++ totals_in))) f₁
      ∙ sets_more (short counts.boards ∷ short counts.processes ∷ short counts.channels ∷ []) (processes_in ++ (boards_in ++ totals_in)) out₀ 0 3 refl

-- how long it is
pub view-long : (counts : Counts) (s : Store) (entries : List Entry) → length (view_of counts s entries) ≡ view_most
unfolding view_of
view-long counts s entries =
    let ps : List ℕ = processes_in counts s entries [] in
    let bs : List ℕ = boards_in counts s entries [] in
    let ts : List ℕ = totals_in counts s entries [] in
    let p : length ps ≡ 4464 = each-length (process_block counts.processes s.processes) 279 processes_most
    (process_block_wide counts.processes s.processes) in
    let b : length bs ≡ 6688 = each-length (board_block counts.boards s.queues entries) 418 boards_most (board_block_wide counts.boards s.queues entries) in
    let k : length ts ≡ 32 = each-length (total_block counts.channels s.totals) 1 channels_most (λ _. refl) in
    let x = length-append ps (bs ++ ts) in
    let y = length-append bs ts in
    omega arith

-- ---- of the cabinet that the store holds

module _ {t : Table} {l : Plan} {s : Store} {entries : List Entry} {c : Cabinet} (ok : Accepted t) (planned : Planned t l) (h : Holds t s entries c) where
  one_process : (p : ℕ) → process_block l.counts.processes s.processes p ≡ process_numbers (process_at c p)
  unfolding process_block
  one_process p =
      let n = planned.processes-is in
      let numbers : Bool → List ℕ = λ b. process_numbers_in (cond b (lists_at s p) zero_process) in
      by_lt p (length t.processes)
      (λ k. ap numbers (lt-ltb p l.counts.processes (omega arith)) ∙ process-is (lists_at s p) ∙ sym (ap process_numbers (at_process h p k)))
      (λ k.
      let none : process_at c p ≡ nobody = get_or-eq_default c.processes nobody {n = p} (let m = how_many h in omega arith) in
      ap numbers (le-ltb p l.counts.processes (omega arith)) ∙ process-is zero_process ∙ ap process_numbers (nobody-is ∙ sym none))

  one_board : (b : ℕ) → board_block l.counts.boards s.queues entries b ≡ board_numbers (dead_at c b) (outbox_at c b)
  unfolding board_block outbox_in queue_of
  one_board b =
      let n = planned.boards-is in
      by_lt b t.boards
      (λ k.
      ap (λ (x : Bool). board_numbers_in (cond x (get_or s.queues b no_queue) no_queue) entries b) (lt-ltb b l.counts.boards (omega arith))
      ∙ board-is (get_or s.queues b no_queue) entries b
      ∙ (λ j. board_numbers (sym (at_dead h b k) j) (sym (at_outbox h b k) j)))
      (λ k.
      let empty : outbox_at c b ≡ [] = get_or-eq_default c.outboxes [] {n = b} (let m = how_many_boards h in omega arith) in
      let live : dead_at c b ≡ false =
      get_or-eq_default c.dead false {n = b}
      (let m : length c.dead ≡ t.boards = ap (λ (x : List Bool). length x) h.dead ∙ listed-length (dead_in s.queues) t.boards in omega arith) in
      ap (λ (x : Bool). board_numbers_in (cond x (get_or s.queues b no_queue) no_queue) entries b) (le-ltb b l.counts.boards (omega arith))
      ∙ board-is no_queue entries b
      ∙ (λ j. board_numbers (sym live j) ((no_board-is entries b ∙ sym empty) j)))

  one_total : (k : ℕ) → total_block l.counts.channels s.totals k ≡ total_number t c k ∷ []
  unfolding total_number
  one_total k =
      by_lt k (length t.channels)
      (λ m. rw (planned.channels-is, lt-ltb k (length t.channels) m) (ap (λ (n : ℕ). n ∷ []) (h.totalled.total-is k m)))
      (λ m. rw (planned.channels-is, le-ltb k (length t.channels) m))

  pub view-is : view_of l.counts s entries ≡ view t c
  unfolding view_of view processes_numbers boards_numbers totals_numbers
  view-is =
      let b : short l.counts.boards ≡ t.boards = (let e = planned.boards-is in let f = ok.boards_high in omega arith) in
      let p : short l.counts.processes ≡ length t.processes = (let e = planned.processes-is in let f = ok.processes_high in omega arith) in
      let k : short l.counts.channels ≡ length t.channels = (let e = planned.channels-is in let f = ok.channels_high in omega arith) in
      λ j. (b j ∷ p j ∷ k j ∷ [])
      ++ (each_same _ _ processes_most (λ i m. one_process i) j
      ++ (each_same _ _ boards_most (λ i m. one_board i) j ++ each_same _ _ channels_most (λ i m. one_total i) j))
