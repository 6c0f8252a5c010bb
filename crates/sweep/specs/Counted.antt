-- How many runs end in each of the three ways, as the code counts them: of one run, of one place and of all.
use Rattle.std.specs.Prelude.{◌≡◌, Bool, not, cond, List, ℕ, suc, ◌+◌, ◌*◌, ◌≤◌, eqb, length}
use Rattle.facts.specs.Tests.{any_below}
use Rattle.facts.specs.Bits.{count_below}
use Rattle.facts.specs.Sums.{sum_below}
use Rattle.rules.specs.Table.{Table}
use Rattle.rules.specs.Moves.{Command}
use Rattle.rules.specs.Bytes.{byte_at}
use Rattle.rules.specs.Format.{decode_table, validate_table}
use Rattle.rules.specs.Schedule.{commands_in, decode_schedule, validate_schedule}
use Rattle.rules.specs.Sizes.{sweep_most}
use Rattle.rules.specs.Sweep.{Ending, ending_of, ending_at, is_quiet, is_held, is_free, validate_sweep}
use Rattle.rules.specs.Transparent.{ended}
use Rattle.plan.specs.declared.Counts.{Counts}
use Rattle.sweep.specs.declared.tally.Tally.{Tally}

-- three counts, each the number of runs whose ending passes its test
pub record Counted (count : (Ending → Bool) → ℕ) (r : Tally) : Type 0 where
  pub quiet_is : r.quiet ≡ count is_quiet
  pub held-is : r.held ≡ count is_held
  pub free-is : r.free ≡ count is_free

-- of one run
abbrev pub count_one : Ending → (Ending → Bool) → ℕ
count_one e test = cond (test e) 1 0

-- of the runs with the crash at one place, of boards below b
abbrev pub count_boards : Table → List Command → ℕ → ℕ → (Ending → Bool) → ℕ
count_boards t commands place b test = count_below (λ i. test (ending_at t commands place i)) b

-- of the runs with the crash at a place below n, of all boards
abbrev pub count_places : Table → List Command → ℕ → (Ending → Bool) → ℕ
count_places t commands n test = sum_below (λ place. count_boards t commands place t.boards test) n

-- one of so many processes has hold-back left, by its byte of the report ("board, place, unread count and hold-back, a byte each")
abbrev pub some_held_in : List ℕ → ℕ → Bool
some_held_in report processes = any_below (λ p. not (eqb (byte_at report (20 * p + 3)) 0)) processes

-- the run of a schedule as it stands, on a table with so many processes
pub record Ends (table schedule : List ℕ) (processes : ℕ) (r : Tally) : Type 0 where
  pub ends : validate_table table ≡ 0 → validate_schedule schedule ≡ 0 → commands_in schedule ≤ suc sweep_most
      → processes ≡ length (decode_table table).processes
      → Counted (count_one (ending_of (decode_table table) (ended (decode_table table) (decode_schedule schedule)))) r

-- a table and a schedule that are swept, and the table's counts
pub record Admitted (table schedule : List ℕ) (counts : Counts) : Type 0 where
  pub valid : validate_sweep table schedule ≡ 0
  pub boards-is : counts.boards ≡ (decode_table table).boards
  pub processes-is : counts.processes ≡ length (decode_table table).processes
