-- W-208 in one statement: the totals that a run keeps, after any number of a schedule's records.
use Rattle.std.specs.Prelude.{◌≡◌, List, ℕ, ◌+◌, ◌*◌, ◌≤◌, ◌<◌, length, get_or, take}
use Rattle.rules.specs.Sizes.{schedule_head}
use Rattle.rules.specs.Cabinet.{occupancy}
use Rattle.rules.specs.Format.{decode_table, validate_table}
use Rattle.rules.specs.Schedule.{commands_in, decode_schedule}
use Rattle.rules.specs.Transparent.{ended}
use Rattle.table.specs.Plan.{Plans}
use Rattle.table.specs.declared.Decoded.{Decoded}
use Rattle.plan.specs.Plan.{plan_of}
use Rattle.state.specs.declared.entry.Entry.{Entry}
use Rattle.state.specs.declared.store.Store.{Store}
use Rattle.stretch.specs.Plays.{Sheets}
use Rattle.undo.specs.Sessions.{PlaysAll}

-- the bytes of a schedule up to its first n records
abbrev pub up_to : ℕ → List ℕ → List ℕ
up_to n schedule = take (schedule_head + 6 * n) schedule

-- "its unread words and its words in queues together", counted in the cabinet that the first n records leave, moves 8 among them (W-214)
abbrev pub afresh : List ℕ → List ℕ → ℕ → ℕ → ℕ
afresh table schedule n k = occupancy (decode_table table) (ended (decode_table table) (take n (decode_schedule schedule))) k

-- "After every move of a run, a crash included, each total equals the count made afresh." Of the bytes of a table that is not refused and of any
-- schedule: whatever store the run's code leaves of its first n records, for any n, each channel's total there is that count. `d` is what the
-- decoder makes of the table (`Plans`), and `PlaysAll` the promise of `play_all`, which does the records of every run.
pub record TotalsAfresh (table schedule : List ℕ) : Type 0 where
  pub after : validate_table table ≡ 0 → (n : ℕ) → n ≤ commands_in schedule
      → {d : Decoded} → Plans table d → {before : Sheets} {s : Store} {entries : List Entry} {sheets : Sheets}
      → PlaysAll (plan_of table d.plan) (up_to n schedule) d.placements before s entries sheets
      → (k : ℕ) → k < length (decode_table table).channels → get_or s.totals k 0 ≡ afresh table schedule n k
