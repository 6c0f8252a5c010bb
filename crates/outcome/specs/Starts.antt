-- The start (document 01, "The cabinet's moves"): "every board live, each process on its primary board, inboxes and queues empty, each
-- backup record as it starts, all else 0".
use Rattle.std.specs.Prelude.{◌≡◌, List, ℕ, ◌≤◌, ◌<◌, length, slice_index_or}
use Rattle.rules.specs.Table.{Table, placement_at}
use Rattle.rules.specs.Judge.{Accepted}
use Rattle.rules.specs.Cabinet.{started}
use Rattle.plan.specs.Plan.{no_placement}
use Rattle.plan.specs.declared.Placement.{Placement}
use Rattle.process.specs.declared.process.Process.{Process}
use Rattle.process.specs.Row.{no_process}
use Rattle.state.specs.declared.entry.Entry.{Entry}
use Rattle.state.specs.declared.store.Store.{Store}
use Rattle.state.specs.Store.{Holds}
use Rattle.rules.specs.Sizes.{processes_most}

-- ---- the table's boards

-- of process p
abbrev pub boards_of : List Placement → ℕ → Placement
boards_of placements p = slice_index_or placements p no_placement

-- The two boards of each process of table t, and how many processes it has.
pub record Placed (t : Table) (placements : List Placement) (processes : ℕ) : Type 0 where
  pub processes-is : processes ≡ length t.processes
  pub placement_at_lem : (p : ℕ) → p < length t.processes
      → ((boards_of placements p).primary ≡ (placement_at t p).primary) × ((boards_of placements p).standby ≡ (placement_at t p).standby)

-- ---- the processes

-- a process of zeros becomes one on its primary board, protected by a backup on its other one
abbrev pub seated_in : Process → Placement → Process
seated_in x boards = record x { board = boards.primary; standby = boards.standby; protection = 1 }

-- What seating promises of 16 processes: the table's are seated, the others stay.
pub record Seats (xs : List Process) (placements : List Placement) (processes : ℕ) (xs' : List Process) : Type 0 where
  pub same_length : length xs' ≡ length xs
  pub seated_at : length xs ≡ processes_most → (p : ℕ) → p < processes_most → p < processes
      → slice_index_or xs' p no_process ≡ seated_in (slice_index_or xs p no_process) (boards_of placements p)
  pub others : (p : ℕ) → processes ≤ p → slice_index_or xs' p no_process ≡ slice_index_or xs p no_process

-- ---- the store

-- What the start promises: the store and the entries hold the start of an accepted table that has these boards.
pub record Starts (placements : List Placement) (processes : ℕ) (s : Store) (entries : List Entry) : Type 0 where
  pub holds : (t : Table) → Accepted t → Placed t placements processes → Holds t s entries (started t)
