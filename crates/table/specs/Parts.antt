-- What the private steps of the decoder give: each judges one number over the whole table, and 6 and 7 leave their part of the plan.
use Rattle.std.specs.Prelude.{◌≡◌, Bool, true, not, cond, ◌&&◌, List, ℕ, ◌≤◌, ◌<◌, eqb, ltb, leb, length, slice_index_or, Option, None, Some, is_some, IfSome}
use Rattle.backup.specs.Limits.{pc_most, ports}
use Rattle.rules.specs.Table.{environment, channel_at, placement_at, code_of, limit_of, inputs, port_of, channel_on}
use Rattle.facts.specs.Tests.{all_below}
use Rattle.rules.specs.Judge.{end_ok, inputs_ok, boards_ok, limit_ok}
use Rattle.rules.specs.Bytes.{byte_at}
use Rattle.rules.specs.Format.{version_in, boards_in, processes_in, channels_in, record_head, program_length, record_length, limit_said}
use Rattle.rules.specs.Format.{decode_table, or_number, length_ok, version_ok, counts_ok, extent_ok}
use Rattle.plan.specs.Plan.{no_program, start_in, length_in, limit_in, arity_in, input_in, sender_in, reader_in, port_in}
use Rattle.plan.specs.declared.Counts.{Counts}
use Rattle.plan.specs.declared.Program.{Program}
use Rattle.table.specs.Records.{program_start}
use Rattle.table.specs.Plan.{primary_in, standby_in}
use Rattle.table.specs.declared.ends.Ports.{Ports}
use Rattle.table.specs.declared.boards.Placed.{Placed}
use Rattle.table.specs.declared.boards.Placements.{Placements}

-- ---- numbers 1 to 4

abbrev pub counts_in : List ℕ → Counts
counts_in bytes = record { boards = boards_in bytes; processes = processes_in bytes; channels = channels_in bytes }

-- of the record that begins a rest, in a table of a version: at most 64 instructions, and all of them there
abbrev pub record_fits : ℕ → List ℕ → Bool
record_fits version rest = leb (program_length version rest) pc_most && leb (record_length version rest) (length rest)

-- its length, or none
abbrev pub record_in : ℕ → List ℕ → Option ℕ
record_in version rest = cond (record_fits version rest) (Some (record_length version rest)) None

-- 0, or the lowest of the four that refuses the table
unfoldable pub framing : List ℕ → ℕ
unfolding length_ok counts_ok extent_ok
framing bytes =
    or_number (length_ok bytes) 1 (or_number (version_ok (version_in bytes)) 2 (or_number (counts_ok bytes) 3 (or_number (extent_ok bytes) 4 0)))

-- what later steps stand on
pub record Framed (bytes : List ℕ) : Type 0 where
  pub length_ok_lem : length_ok bytes ≡ true
  pub counts_ok_lem : counts_ok bytes ≡ true
  pub extent_ok_lem : extent_ok bytes ≡ true

-- ---- number 5

-- both ends of a channel, of so many processes
abbrev pub pair_ok : ℕ → ℕ → ℕ → Bool
pair_ok processes sender reader = end_ok processes sender && (end_ok processes reader && not (eqb sender environment && eqb reader environment))

-- ---- number 6: the wires of the plan, and the channels that each process reads

pub record PortsFound (bytes : List ℕ) (r : Ports) : Type 0 where
  pub sender_at : (k : ℕ) → k < channels_in bytes → sender_in r.wires k ≡ (channel_at (decode_table bytes) k).sender
  pub reader_at : (k : ℕ) → k < channels_in bytes → reader_in r.wires k ≡ (channel_at (decode_table bytes) k).reader
  pub port_at : (k : ℕ) → k < channels_in bytes → (channel_at (decode_table bytes) k).reader < processes_in bytes
      → port_in r.wires k ≡ port_of (decode_table bytes) (channel_at (decode_table bytes) k).reader k
  pub few : (p : ℕ) → p < processes_in bytes → length (inputs (decode_table bytes) p) ≤ ports
  pub arity_at : (p : ℕ) → p < processes_in bytes → arity_in r.programs p ≡ length (inputs (decode_table bytes) p)
  pub input_at_lem : (p : ℕ) → p < processes_in bytes → (s : ℕ) → s < length (inputs (decode_table bytes) p)
      → input_in r.programs p s ≡ channel_on (decode_table bytes) p s

-- found where the number passes, and only there
pub record PortsRead (bytes : List ℕ) (r : Option Ports) : Type 0 where
  pub says : is_some r ≡ inputs_ok (decode_table bytes)
  pub found : IfSome r (PortsFound bytes)

-- ---- number 7

abbrev pub two_boards : ℕ → ℕ → ℕ → Bool
two_boards boards primary standby = ltb primary boards && (ltb standby boards && not (eqb primary standby))

-- the record that begins a rest, in a table of a version
pub record PlacedHere (version : ℕ) (rest : List ℕ) (r : Placed) : Type 0 where
  pub primary-is : r.placement.primary ≡ byte_at rest 0
  pub standby-is : r.placement.standby ≡ byte_at rest 1
  pub limit_is : r.limit ≡ limit_said version (byte_at rest 2)
  pub n_is : r.n ≡ program_length version rest
  pub head_is : r.head ≡ record_head version
  pub size_is : r.size ≡ record_length version rest

pub record PlacedIn (version boards : ℕ) (rest : List ℕ) (r : Option Placed) : Type 0 where
  pub says : is_some r ≡ two_boards boards (byte_at rest 0) (byte_at rest 1)
  pub found : IfSome r (PlacedHere version rest)

-- of each process its boards and its program, of which the channels that it reads stay as they were in `read`
pub record PlacementsFound (bytes : List ℕ) (read : List Program) (r : Placements) : Type 0 where
  pub start_at : (p : ℕ) → p < processes_in bytes → start_in r.programs p ≡ program_start bytes p
  pub length_at : (p : ℕ) → p < processes_in bytes → length_in r.programs p ≡ length (code_of (decode_table bytes) p)
  pub limit_at : (p : ℕ) → p < processes_in bytes → limit_in r.programs p ≡ limit_of (decode_table bytes) p
  pub arity_kept : (p : ℕ) → arity_in r.programs p ≡ arity_in read p
  pub inputs_kept : (p : ℕ) → (slice_index_or r.programs p no_program).inputs ≡ (slice_index_or read p no_program).inputs
  pub primary_at : (p : ℕ) → p < processes_in bytes → primary_in r.placements p ≡ (placement_at (decode_table bytes) p).primary
  pub standby_at : (p : ℕ) → p < processes_in bytes → standby_in r.placements p ≡ (placement_at (decode_table bytes) p).standby

pub record PlacementsRead (bytes : List ℕ) (read : List Program) (r : Option Placements) : Type 0 where
  pub says : is_some r ≡ boards_ok (decode_table bytes)
  pub found : IfSome r (PlacementsFound bytes read)

-- ---- number 47

-- the limits of so many processes
unfoldable pub limits_pass : List Program → ℕ → Bool
limits_pass programs processes = all_below (λ p. limit_ok (limit_in programs p)) processes
