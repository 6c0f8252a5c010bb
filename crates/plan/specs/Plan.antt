-- A table's plan as the moves are lent it, and that it is the table's: a program for each process, and a wire for each channel.
use Rattle.std.specs.Prelude.{◌≡◌, List, [], ℕ, ◌<◌, length, get_or, slice_index, slice_index_or}
use Rattle.records.specs.Fetch.{fetched, instruction_of}
use Rattle.rules.specs.Table.{Table, SET, code_of, limit_of, channel_at, inputs, port_of, channel_on}
use Rattle.plan.specs.declared.Counts.{Counts}
use Rattle.plan.specs.declared.Program.{Program}
use Rattle.plan.specs.declared.Wire.{Wire}
use Rattle.plan.specs.declared.Placement.{Placement}
use Rattle.plan.specs.declared.Plan as code

-- ---- by name

-- of a process and of a channel that the plan doesn't have, and the boards of such a process
abbrev pub no_program : Program
no_program = record { start = 0; length = 0; limit = 0; arity = 0; inputs = [] }

abbrev pub no_wire : Wire
no_wire = record { sender = 0; reader = 0; port = 0 }

abbrev pub no_placement : Placement
no_placement = record { primary = 0; standby = 0 }

-- of process p: where its program begins in the table's bytes, how many instructions it has, its limit (W-207), how many channels it reads, and
-- the channel at a port
abbrev pub start_in : List Program → ℕ → ℕ
start_in programs p = (slice_index_or programs p no_program).start

abbrev pub length_in : List Program → ℕ → ℕ
length_in programs p = (slice_index_or programs p no_program).length

abbrev pub limit_in : List Program → ℕ → ℕ
limit_in programs p = (slice_index_or programs p no_program).limit

abbrev pub arity_in : List Program → ℕ → ℕ
arity_in programs p = (slice_index_or programs p no_program).arity

abbrev pub input_in : List Program → ℕ → ℕ → ℕ
input_in programs p port = slice_index (slice_index_or programs p no_program).inputs port

-- of channel k: its ends, and its port within its reader
abbrev pub sender_in : List Wire → ℕ → ℕ
sender_in wires k = (slice_index_or wires k no_wire).sender

abbrev pub reader_in : List Wire → ℕ → ℕ
reader_in wires k = (slice_index_or wires k no_wire).reader

abbrev pub port_in : List Wire → ℕ → ℕ
port_in wires k = (slice_index_or wires k no_wire).port

-- ---- the plan

-- The table's bytes, how many boards, processes and channels it has, and the programs and wires.
pub record Plan : Type 0 where
  pub table : List ℕ
  pub counts : Counts
  pub programs : List Program
  pub wires : List Wire

-- the bytes of a table, and the plan as the code has it
abbrev pub plan_of : List ℕ → code.Plan → Plan
plan_of table plan = record { table = table; counts = plan.counts; programs = plan.programs; wires = plan.wires }

-- it says what table t says
pub record Planned (t : Table) (l : Plan) : Type 0 where
  pub boards-is : l.counts.boards ≡ t.boards
  pub processes-is : l.counts.processes ≡ length t.processes
  pub channels-is : l.counts.channels ≡ length t.channels
  -- for each process: the instructions fetched where its program begins are the program's, and how many they are; its limit
  pub code_at : (p : ℕ) → p < length t.processes → (k : ℕ) → k < length (code_of t p)
      → instruction_of (fetched l.table (start_in l.programs p) k) ≡ get_or (code_of t p) k (SET 0 0)
  pub length_at : (p : ℕ) → p < length t.processes → length_in l.programs p ≡ length (code_of t p)
  pub limit_at : (p : ℕ) → p < length t.processes → limit_in l.programs p ≡ limit_of t p
  -- how many channels it reads, and which one is at each port
  pub arity_at : (p : ℕ) → p < length t.processes → arity_in l.programs p ≡ length (inputs t p)
  pub input_at_lem : (p : ℕ) → p < length t.processes → (s : ℕ) → s < length (inputs t p) → input_in l.programs p s ≡ channel_on t p s
  -- for each channel: its ends, and its port within a reader that is a process
  pub sender_at : (k : ℕ) → k < length t.channels → sender_in l.wires k ≡ (channel_at t k).sender
  pub reader_at : (k : ℕ) → k < length t.channels → reader_in l.wires k ≡ (channel_at t k).reader
  pub port_at : (k : ℕ) → k < length t.channels → (channel_at t k).reader < length t.processes
      → port_in l.wires k ≡ port_of t (channel_at t k).reader k
