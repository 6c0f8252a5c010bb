-- The sizes that document 01 gives the cabinet, its table and its schedule, each named once; those of the backup record, the largest program
-- among them, are its `Limits`. What stands above passes them on. The code names the same numbers in records/src/schedule.rt, plan/src/lib.rt,
-- table/src/format.rt, state/src/queue.rt, state/src/channel.rt, step/src/guards.rt and sweep/src/judge.rt.
use Rattle.std.specs.Prelude.{Bool, cond, ℕ, ◌+◌, ◌*◌, eqb}
use Rattle.backup.specs.Limits.{ports}

-- ---- the table

-- "Bytes 0 and 1: the length of all that follows them, at most 6,260." W-207: "The table's length limit becomes 6,276", whatever the version
abbrev pub table_most : ℕ
table_most = 6276

-- "boards B, 2 to 16", "processes P, 1 to 16", "channels C, 1 to 32"
abbrev pub boards_least : ℕ
boards_least = 2

abbrev pub boards_most : ℕ
boards_most = 16

abbrev pub processes_most : ℕ
processes_most = 16

abbrev pub channels_most : ℕ
channels_most = 32

-- W-207: "Table version 2 adds a limit byte": whether a table of this version has limits, and how many limit bytes a process's record has
abbrev pub with_limits : ℕ → Bool
with_limits version = eqb version 2

abbrev pub limit_bytes : ℕ → ℕ
limit_bytes version = cond (with_limits version) 1 0

-- "one record for each process: primary board, backup board, n [..], and n instructions", the limit "between the backup board and n": where n
-- stands, and the bytes before the instructions
abbrev pub length_place : ℕ → ℕ
length_place version = 2 + limit_bytes version

abbrev pub record_head : ℕ → ℕ
record_head version = 1 + length_place version

-- ---- the schedule

-- "two length bytes, version 1, then 0 to 10,000 records of six bytes"
abbrev pub schedule_head : ℕ
schedule_head = 3

abbrev pub commands_most : ℕ
commands_most = 10000

-- W-213: "or over 500 records"
abbrev pub sweep_most : ℕ
sweep_most = 500

-- W-214: "Of the others 64 are kept to go back to"
abbrev pub kept_most : ℕ
kept_most = 64

-- ---- the cabinet

-- "each board has one queue, at most 32 entries"
abbrev pub outbox_most : ℕ
outbox_most = 32

-- of all queues together
abbrev pub entries_most : ℕ
entries_most = boards_most * outbox_most

-- W-207: "a limit byte, 1 to 16", for the acts of each process between two syncs
abbrev pub limit_least : ℕ
limit_least = 1

abbrev pub limit_most : ℕ
limit_most = 16

-- "37 if backed and acts are 8"; W-207: "Version 1 is read as limit 8 throughout."
abbrev pub limit_before : ℕ
limit_before = 8

-- W-204: "A backed process now also owes a sync after 64 instructions done since its last sync was issued."
abbrev pub instructions_most : ℕ
instructions_most = 64

-- "A channel is held when its unread words and those in the queues are 8 or more together."
abbrev pub occupancy_most : ℕ
occupancy_most = 8

-- W-207: "at most 32 plus twice the limit saved words": four channels of 8, and what was taken since the last sync but one was issued
abbrev pub saved_most : ℕ → ℕ
saved_most limit = ports * occupancy_most + 2 * limit
