-- A stretch of a schedule's records, one after the other. "Each schedule record, refused or not, gets the cabinet that the last one left".
use Rattle.std.specs.Prelude.{◌≡◌, true, false, List, map, ℕ, ◌+◌, ◌-◌, ◌*◌, ◌≤◌, ◌<◌, length, get_or, set, take, drop}
use Rattle.std.proofs.lemmas.List.Edits.{sets}
use Rattle.rules.specs.Table.{Table}
use Rattle.rules.specs.Bytes.{all_bytes}
use Rattle.rules.specs.Machine.{Origin}
use Rattle.rules.specs.Cabinet.{Cabinet}
use Rattle.rules.specs.Moves as rules
use Rattle.rules.specs.Moves.{Command, numbers, origin_of, run_from}
use Rattle.rules.specs.Reasons.{reason_of}
use Rattle.rules.specs.Undo.{is_undo, any_undo}
use Rattle.rules.specs.Schedule.{commands_in, command, decode_schedule}
use Rattle.rules.specs.Run.{answer_bytes, origin_bytes}
use Rattle.plan.specs.Plan.{Plan, Planned}
use Rattle.state.specs.declared.entry.Entry.{Entry}
use Rattle.state.specs.declared.moved.Answer.{Answer}
use Rattle.state.specs.declared.store.Store.{Store}
use Rattle.state.specs.Store.{Holds}
use Rattle.state.specs.Moved.{Reachable}
use Rattle.stretch.specs.declared.stretch.Stretch.{Stretch}
use Rattle.stretch.specs.Written.{six_bytes, reason_byte}

-- ---- the buffers

-- the lent buffers that every record writes to
pub record Sheets : Type 0 where
  pub answers : List ℕ
  pub reasons : List ℕ
  pub origins : List ℕ

abbrev pub sheets_of : List ℕ → List ℕ → List ℕ → Sheets
sheets_of answers reasons origins = record { answers = answers; reasons = reasons; origins = origins }

-- they have room for so many records
pub record Roomy (records : ℕ) (sheets : Sheets) : Type 0 where
  pub answers-room : 6 * records ≤ length sheets.answers
  pub reasons-room : records ≤ length sheets.reasons
  pub origins-room : 2 * records ≤ length sheets.origins

-- and for record i
pub record RoomAt (i : ℕ) (sheets : Sheets) : Type 0 where
  pub answers-there : 6 * i + 6 ≤ length sheets.answers
  pub reasons-there : i < length sheets.reasons
  pub origins-there : 2 * i + 2 ≤ length sheets.origins

-- they are as long as these
pub record AsLong (before after : Sheets) : Type 0 where
  pub answers-long : length after.answers ≡ length before.answers
  pub reasons-long : length after.reasons ≡ length before.reasons
  pub origins-long : length after.origins ≡ length before.origins

-- the i-th answer, its reason and where its word comes from were written
pub record Writes (before : Sheets) (i : ℕ) (r : Answer) (o : Origin) (after : Sheets) : Type 0 where
  pub answers_are : after.answers ≡ sets before.answers (6 * i) (six_bytes r)
  pub reasons_are : after.reasons ≡ set before.reasons i (reason_byte r.code r.cause)
  pub origins_are : after.origins ≡ sets before.origins (2 * i) (origin_bytes o)

-- the rules' answers to the records from number i on, with their reasons and origins, were written at those records' places
pub record Wrote (before : Sheets) (i : ℕ) (answers : List rules.Answer) (after : Sheets) : Type 0 where
  pub answers_are : after.answers ≡ sets before.answers (6 * i) (all_bytes answer_bytes (map numbers answers))
  pub reasons_are : after.reasons ≡ sets before.reasons i (map reason_of answers)
  pub origins_are : after.origins ≡ sets before.origins (2 * i) (all_bytes origin_bytes (map origin_of answers))

-- ---- the records

-- those of a schedule from number i on, before number j
abbrev pub between : List ℕ → ℕ → ℕ → List Command
between schedule i j = take (j - i) (drop i (decode_schedule schedule))

-- a store that holds a cabinet which commands reach on a table, whose the plan is
pub record Suited (t : Table) (l : Plan) (c : Cabinet) (s : Store) (entries : List Entry) : Type 0 where
  pub reached : Reachable t c
  pub planned : Planned t l
  pub holds : Holds t s entries c

-- These commands were done from cabinet c on: the store holds the cabinet that they leave, and what they answer is written at the places of the
-- records from number i on.
pub record Played (t : Table) (c : Cabinet) (commands : List Command) (s : Store) (entries : List Entry) (before : Sheets) (i : ℕ)
    (after : Sheets) : Type 0 where
  pub holds : Holds t s entries (run_from t c commands).cabinet
  pub wrote : Wrote before i (run_from t c commands).answers after

-- The records of a stretch, on store s that is then s'. r is what is left of it: its `from` is the first record that was not played.
pub record Plays (l : Plan) (schedule : List ℕ) (stretch : Stretch) (s : Store) (before : Sheets) (r : Stretch) (s' : Store) (after : Sheets)
    : Type 0 where
  -- it goes forward, no further than it was asked to and than the schedule does,
  pub forward : stretch.from ≤ r.from
  pub inside : stretch.from ≤ stretch.to → r.from ≤ stretch.to
  pub there : stretch.from ≤ commands_in schedule → r.from ≤ commands_in schedule
  -- and ends at one of the two, or at a move 8 (W-214), which is no move of a cabinet: none was played
  pub ended : r.from < stretch.to → r.from < commands_in schedule → is_undo (get_or (decode_schedule schedule) r.from (command 0 0 0)) ≡ true
  pub no_undo : any_undo (between schedule stretch.from r.from) ≡ false
  pub same_to : r.to ≡ stretch.to
  -- what was played, from any cabinet that commands reach
  pub played : (t : Table) (c : Cabinet) → Suited t l c s stretch.entries
      → Played t c (between schedule stretch.from r.from) s' r.entries before stretch.from after
