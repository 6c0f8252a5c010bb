-- A whole run, from the bytes of a table and a schedule and the lent buffers to the numbers that it returns and the buffers afterwards
-- (document 01, "What each move replies").
use Rattle.std.specs.Prelude.{Bool, false, cond, ◌&&◌, List, [], ◌∷◌, ◌++◌, map, ℕ, ◌*◌, eqb, leb, length}
use Rattle.rules.specs.Table.{Table}
use Rattle.rules.specs.Machine.{Origin, register}
use Rattle.rules.specs.Cabinet.{Process, quiescent}
use Rattle.rules.specs.Moves.{Command, Numbers, numbers, origin_of}
use Rattle.rules.specs.Undo.{opened, play_from}
use Rattle.rules.specs.Reasons.{reason_of}
use Rattle.rules.specs.Bytes.{word_bytes, all_bytes, written}
use Rattle.rules.specs.Format.{processes_in, or_number, decode_table, validate_table}
use Rattle.rules.specs.Schedule.{commands_in, decode_schedule, validate_schedule}

-- the lent buffers, one for each list that a run writes
pub record Buffers : Type 0 where
  -- "One six-byte answer a record"
  pub answers : List ℕ
  -- W-206: "a second list with one byte a record"
  pub reasons : List ℕ
  -- "20 bytes a process"
  pub report : List ℕ
  -- W-212: "a further lent buffer as two bytes a record: sender and place"
  pub origins : List ℕ

abbrev pub buffers_of : List ℕ → List ℕ → List ℕ → List ℕ → Buffers
buffers_of answers reasons report origins = record { answers = answers; reasons = reasons; report = report; origins = origins }

-- how long they are, which is all of them that decides whether a run is refused
pub record Lengths : Type 0 where
  pub answers : ℕ
  pub reasons : ℕ
  pub report : ℕ
  pub origins : ℕ

abbrev pub lengths_of : Buffers → Lengths
lengths_of buffers = record {
  answers = length buffers.answers;
  reasons = length buffers.reasons;
  report = length buffers.report;
  origins = length buffers.origins;
}

-- "An accepted run returns 0, its number of records, and whether it ended quiet."
pub record Ran : Type 0 where
  pub number : ℕ
  pub records : ℕ
  pub quiet : Bool
  -- the lent buffers afterwards
  pub buffers : Buffers

abbrev pub ran_of : ℕ → ℕ → Bool → Buffers → Ran
ran_of number records quiet buffers = record { number = number; records = records; quiet = quiet; buffers = buffers }

-- ---- what is written

-- "One six-byte answer a record: code, a, word."
abbrev pub answer_bytes : Numbers → List ℕ
answer_bytes n = n.code ∷ n.a ∷ word_bytes n.word

-- W-212: "sender and place"
abbrev pub origin_bytes : Origin → List ℕ
origin_bytes o = o.sender ∷ o.pc ∷ []

-- "The report: board, place, unread count and hold-back, a byte each, then four registers."
abbrev pub report_bytes : Process → List ℕ
report_bytes x =
    x.board
    ∷ x.machine.pc
    ∷ length x.machine.mailbox
    ∷ x.suppress
    ∷ (word_bytes (register x.machine 0)
    ++ (word_bytes (register x.machine 1) ++ (word_bytes (register x.machine 2) ++ word_bytes (register x.machine 3))))

-- ---- the run

-- 0, or "lowest number first": those of the table, 47 among them ("checked after 8 and before 9"), those of the schedule, then
-- "11 answer buffer under six bytes a record; 12 report buffer under 20 bytes a process". W-206: "A buffer for this list under one byte a
-- record makes the run answer 11." W-212: "51, that buffer is under two bytes a record, after 12".
unfoldable pub validate_run : List ℕ → List ℕ → Lengths → ℕ
unfolding validate_table validate_schedule
validate_run table schedule lengths =
    or_number (eqb (validate_table table) 0) (validate_table table)
    (or_number (eqb (validate_schedule schedule) 0) (validate_schedule schedule)
    (or_number (leb (6 * commands_in schedule) lengths.answers && leb (commands_in schedule) lengths.reasons) 11
    (or_number (leb (20 * processes_in table) lengths.report) 12
    (or_number (leb (2 * commands_in schedule) lengths.origins) 51
    0))))

-- the run of a table and a list of commands: "It starts from the cabinet that the table gives"
unfoldable pub ran_from : Table → List Command → Buffers → Ran
unfolding opened play_from numbers reason_of origin_of quiescent
ran_from t commands buffers =
    let end = play_from t (opened t) commands in
    record {
      number = 0;
      records = length commands;
      quiet = quiescent t end.session.cabinet;
      buffers = record {
        answers = written (all_bytes answer_bytes (map numbers end.answers)) buffers.answers;
        reasons = written (map reason_of end.answers) buffers.reasons;
        report = written (all_bytes report_bytes end.session.cabinet.processes) buffers.report;
        origins = written (all_bytes origin_bytes (map origin_of end.answers)) buffers.origins;
      };
    }

-- A refused run "returns the number alone, no records, not quiet, and writes to no lent buffer".
unfoldable pub refused_with : ℕ → Buffers → Ran
refused_with number buffers = ran_of number 0 false buffers

unfoldable pub run : List ℕ → List ℕ → Buffers → Ran
unfolding validate_run ran_from refused_with decode_table decode_schedule
run table schedule buffers =
    let number = validate_run table schedule (lengths_of buffers) in
    cond (eqb number 0) (ran_from (decode_table table) (decode_schedule schedule) buffers) (refused_with number buffers)

-- the run is accepted: it returns the number 0
unfoldable pub accepted : List ℕ → List ℕ → Buffers → Bool
unfolding run
accepted table schedule buffers = eqb (run table schedule buffers).number 0
