-- Failure transparency of a run, on the bytes that go in and come out: demand 3 of document 01 (Transparent has the statement itself).
use Rattle.std.specs.Prelude.{List, ℕ, take}
use Rattle.rules.specs.Machine.{Origin}
use Rattle.rules.specs.Moves.{Numbers, numbered}
use Rattle.rules.specs.Transparent.{Transparent, fed_in, bus_order, machines_of, ended}
use Rattle.rules.specs.Bytes.{sixes, twos}
use Rattle.rules.specs.Format.{decode_table}
use Rattle.rules.specs.Schedule.{decode_schedule}
use Rattle.rules.specs.Run.{Ran}

-- "One six-byte answer a record: code, a, word": the first n answers of a buffer
abbrev pub read_answers : ℕ → List ℕ → List Numbers
read_answers n buffer = sixes numbered n buffer

-- the answers that a run wrote, read out of its buffer
abbrev pub answers_in : Ran → List Numbers
answers_in r = read_answers r.records r.buffers.answers

-- W-206: "a second list with one byte a record", read out of its own
abbrev pub reasons_in : Ran → List ℕ
reasons_in r = take r.records r.buffers.reasons

-- W-212: "two bytes a record: sender and place", the first n of a buffer
abbrev pub read_origins : ℕ → List ℕ → List Origin
read_origins n buffer = twos (λ sender pc. record { sender = sender; pc = pc }) n buffer

abbrev pub origins_in : Ran → List Origin
origins_in r = read_origins r.records r.buffers.origins

-- Of the bytes of a table and a schedule, and of what a run of them returned and left in its buffers: what was fed and the bus order are
-- read out of the answers and the origins there, and quiet is the one returned. "those that the five moves give after our last record" are
-- the rules' own.
abbrev pub FailureTransparency : List ℕ → List ℕ → Ran → Type 0
FailureTransparency table schedule r =
    let commands = decode_schedule schedule in
    Transparent (decode_table table) (fed_in commands (answers_in r) (origins_in r)) (bus_order commands (answers_in r) (origins_in r)) r.quiet
    (machines_of (ended (decode_table table) commands))
