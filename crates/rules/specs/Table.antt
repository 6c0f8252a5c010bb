-- What a table says: boards, channel ends, and for each process its two boards and its program (document 01, "The table").
use Rattle.std.specs.Prelude.{cond, List, [], ◌∷◌, ℕ, suc, eqb, get_or}

-- "a process number, or 255 for the outside"
abbrev pub environment : ℕ
environment = 255

pub record Channel : Type 0 where
  pub sender : ℕ
  pub reader : ℕ

-- codes 1 to 6 with `a` and the operand, and any other code
pub data Instruction : Type 0 where
  SET ADD TAKE FIRST SEND JUMP : ℕ → ℕ → Instruction
  -- number 8 refuses it, and nothing executes it
  NONE : Instruction

-- "one record for each process: primary board, backup board, n, and n instructions". W-207: "a limit byte [..] between the backup board and n"
pub record Placement : Type 0 where
  pub primary : ℕ
  pub standby : ℕ
  -- how many acts it may do between two syncs
  pub limit : ℕ
  pub code : List Instruction

pub record Table : Type 0 where
  pub boards : ℕ
  pub channels : List Channel
  pub processes : List Placement

-- channel k; one that the table doesn't have joins the environment to itself
abbrev pub channel_at : Table → ℕ → Channel
channel_at t k = get_or t.channels k (record { sender = environment; reader = environment })

-- stands for the placement of a process that the table doesn't have
abbrev pub nowhere : Placement
nowhere = record { primary = 0; standby = 0; limit = 0; code = [] }

abbrev pub placement_at : Table → ℕ → Placement
placement_at t p = get_or t.processes p nowhere

abbrev pub code_of : Table → ℕ → List Instruction
code_of t p = (placement_at t p).code

abbrev pub limit_of : Table → ℕ → ℕ
limit_of t p = (placement_at t p).limit

-- the channels of a list that process p reads, where the list's first is channel k
abbrev pub read_from : ℕ → List Channel → ℕ → List ℕ
read_from k [] p = []
read_from k (c ∷ cs) p =
    let others = read_from (suc k) cs p in
    cond (eqb c.reader p) (k ∷ others) others

-- "Its slots 0 to 3 are those channels, ascending."
unfoldable pub inputs : Table → ℕ → List ℕ
inputs t p = read_from 0 t.channels p

-- where a number stands in a list; the list's length if it isn't there
abbrev pub position : ℕ → List ℕ → ℕ
position k [] = 0
position k (x ∷ l) = cond (eqb k x) 0 (suc (position k l))

-- index of an input channel within its reader (document 01: slot)
abbrev pub port_of : Table → ℕ → ℕ → ℕ
port_of t p k = position k (inputs t p)

-- the channel of a port of process p
abbrev pub channel_on : Table → ℕ → ℕ → ℕ
channel_on t p port = get_or (inputs t p) port 0
