-- What the label line promises of a run, and its two calls' contracts.
use Rattle.std.specs.Prelude.{◌≡◌, Bool, true, cond, ℕ, ◌+◌, ◌^◌, ◌<◌, leb, length, get_or, Result, IfOk}
use mathlib.Core.List.{List, IsPrefix}
use Rattle.numbers.specs.Runs.{number_in}
use Rattle.numbers.specs.declared.runs.Refusal.{Refusal}
use Rattle.rules.specs.Machine.{Origin}
use Rattle.rules.specs.Moves.{Command, Numbers}
use Rattle.rules.specs.Format.{decode_table, validate_table}
use Rattle.rules.specs.Encode.{encode, validate_lists}
use Rattle.rules.specs.Schedule.{decode_schedule}
use Rattle.rules.specs.Run.{Buffers, Ran, run, refused_with}
use Rattle.rules.specs.Transparency.{answers_in, origins_in, FailureTransparency}
use Rattle.cabinet.specs.Runs.{ran_by}
use Rattle.cabinet.specs.declared.run.Ended.{Ended}
use Rattle.label_line.specs.Line.{serial_most, line_number, line_table, line_lists, line_bytes}
use Rattle.label_line.specs.Outlet.{labels, cartons, at_outlet, serials, in_a_row}
use Rattle.label_line.specs.Spaced.{TakesOften}

-- Of the commands of a schedule, their answers and origins, and whether the run ended quiet. W-203 asks it of "one crash at any place or none"; since
-- W-211 it is of "every accepted sequence of crashes, returns and resyncs".
pub record Labelled (first : ℕ) (commands : List Command) (answers : List Numbers) (origins : List Origin) (quiet : Bool) : Type 0 where
  -- "With one crash at any place or none, the outlet's words so far are a beginning of that sequence."
  pub beginning : IsPrefix (at_outlet commands answers origins) (labels first (cartons commands answers origins))
  -- "When the run ends quiet they are all of it"
  pub all_printed : quiet ≡ true → at_outlet commands answers origins ≡ labels first (cartons commands answers origins)
  -- "no serial repeats, none is skipped": the serials are first, first + 1, ..
  pub in_a_row : serials (at_outlet commands answers origins) ≡ in_a_row first (length (serials (at_outlet commands answers origins)))
  pub no_repeat : (i j : ℕ) → i < length (serials (at_outlet commands answers origins)) → j < length (serials (at_outlet commands answers origins))
      → get_or (serials (at_outlet commands answers origins)) i 0 ≡ get_or (serials (at_outlet commands answers origins)) j 0 → i ≡ j
  -- and none wraps: with a label for every carton even the serial after the last fits 32 bits
  pub no_wrap : first + length (cartons commands answers origins) < 2 ^ 32

-- ---- the table

-- a table that is made of a first serial
pub record LineTable (first : ℕ) (bytes : List ℕ) : Type 0 where
  pub bytes_are : bytes ≡ line_bytes first
  -- the writer of W-201 doesn't refuse its lists, and what it writes of them is made; the reader accepts that, and it says what the label
  -- line's table says
  pub writable : validate_lists (line_lists first) ≡ 0
  pub written : bytes ≡ encode (line_lists first)
  pub accepted : validate_table bytes ≡ 0
  pub says : decode_table bytes ≡ line_table first
  -- "In the plain cabinet neither program does nine instructions in a row without a take."
  pub takes_often : TakesOften (decode_table bytes)

-- The table of any first serial: "46, a first serial above 4,294,957,295, its only refusal; no table is then made".
pub record MakesTable (first : ℕ) (r : Result (List ℕ) Refusal) : Type 0 where
  pub number_is : number_in r ≡ line_number first
  pub made : IfOk r (LineTable first)

-- ---- the run

-- 46, or the run of the table
unfoldable pub line_run : ℕ → List ℕ → Buffers → Ran
unfolding run refused_with
line_run first schedule before = cond (leb first serial_most) (run (line_bytes first) schedule before) (refused_with 46 before)

-- A run of any first serial and any bytes of a schedule, with buffers of any length: these before it, those after it.
pub record RunsLine (first : ℕ) (schedule : List ℕ) (before : Buffers) (r : Result Ended Refusal) (after : Buffers) : Type 0 where
  -- number, records, quiet and buffers: refused, nothing is written
  pub ran : ran_by r after ≡ line_run first schedule before
  -- demand 3 of an accepted run, as of every table: its bus order with senders and places (W-212) is that of a plain run
  pub failure_transparent : number_in r ≡ 0 → FailureTransparency (line_bytes first) schedule (ran_by r after)
  -- the labels of an accepted run, about the answers and origins in the buffers as the call left them and the `quiet` that it returned
  pub labelled : number_in r ≡ 0
      → Labelled first (decode_schedule schedule) (answers_in (ran_by r after)) (origins_in (ran_by r after)) (ran_by r after).quiet
