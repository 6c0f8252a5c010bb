-- What a store says of the cabinet that it holds: processes, queues, dead boards.
use Rattle.std.proofs.Common.{◌≡◌, ℕ, ◌<◌, Bool, false, List, [], length, get_or, ap, ◌∙◌}
use Rattle.facts.specs.Rings.{get_or_listed, listed-length}
use Rattle.rules.specs.Table.{Table}
use Rattle.rules.specs.Cabinet as rules
use Rattle.rules.specs.Cabinet.{Cabinet, Process, nobody, process_at, outbox_at, dead_at}
use Rattle.state.specs.declared.entry.Entry.{Entry}
use Rattle.state.specs.Queue.{dead_in}
use Rattle.state.specs.declared.store.Store.{Store}
use Rattle.state.specs.Store.{Holds, process_in, outbox_in}

module _ {t : Table} {s : Store} {entries : List Entry} {c : Cabinet} (h : Holds t s entries c) where
  pub at_process : (p : ℕ) → p < length t.processes → process_at c p ≡ process_in s p
  at_process p l = ap (λ (x : List Process). get_or x p nobody) h.processes ∙ get_or_listed (process_in s) (length t.processes) p nobody l

  pub at_outbox : (b : ℕ) → b < t.boards → outbox_at c b ≡ outbox_in s.queues entries b
  at_outbox b l = ap (λ (x : List (List rules.Item)). get_or x b []) h.outboxes ∙ get_or_listed (outbox_in s.queues entries) t.boards b [] l

  pub at_dead : (b : ℕ) → b < t.boards → dead_at c b ≡ dead_in s.queues b
  at_dead b l = ap (λ (x : List Bool). get_or x b false) h.dead ∙ get_or_listed (dead_in s.queues) t.boards b false l

  pub how_many : length c.processes ≡ length t.processes
  how_many = ap (λ (x : List Process). length x) h.processes ∙ listed-length (process_in s) (length t.processes)

  pub how_many_boards : length c.outboxes ≡ t.boards
  how_many_boards = ap (λ (x : List (List rules.Item)). length x) h.outboxes ∙ listed-length (outbox_in s.queues entries) t.boards
