-- One process as a machine, and the meaning of one instruction (document 01, "The table").
-- The cabinet and the reference machine share this and nothing else.
use Rattle.std.specs.Prelude.{Bool, cond, List, [], ◌∷◌, ◌++◌, ℕ, suc, ◌+◌, ◌/◌, ◌%◌, ◌^◌, eqb, ltb, length, get_or, set}
use Rattle.backup.specs.Replica.{no_registers}
use Rattle.rules.specs.Table.{environment, Instruction, SET, ADD, TAKE, FIRST, SEND, JUMP, NONE}

-- a word on a channel
pub record Mail : Type 0 where
  pub channel : ℕ
  pub word : ℕ

-- where a word on the bus comes from. W-212: "the place of its SEND and the sender"
pub record Origin : Type 0 where
  pub sender : ℕ
  pub pc : ℕ

pub record BusWord : Type 0 where
  pub mail : Mail
  pub origin : Origin

-- a word that this process sent, from this place
abbrev pub sent_from : ℕ → ℕ → Mail → BusWord
sent_from p pc x = record { mail = x; origin = record { sender = p; pc = pc } }

-- "255 and 0 for a feed"
abbrev pub outside : Origin
outside = record { sender = environment; pc = 0 }

abbrev pub from_outside : Mail → BusWord
from_outside x = record { mail = x; origin = outside }

pub record Machine : Type 0 where
  pub registers : List ℕ
  -- program counter (document 01: place)
  pub pc : ℕ
  -- unread messages in order of arrival, over all channels (inbox)
  pub mailbox : List Mail

-- "Each process has four word registers and a place, all 0 at first."
unfoldable pub booted : Machine
booted = record { registers = no_registers; pc = 0; mailbox = [] }

-- what one instruction did to the world outside its machine
pub data Act : Type 0 where
  internal : Act
  took : Mail → Act
  sent : Mail → Act

pub data Outcome : Type 0 where
  -- "Place n means halted."
  halted : Outcome
  -- TAKE or FIRST finds no such word
  no_mail : Outcome
  moved : Machine → Act → Outcome

-- ---- the oldest unread word on a channel that passes, and the mailbox without it

pub data Pull : Type 0 where
  nothing : Pull
  found : Mail → List Mail → Pull

abbrev pub behind : Mail → Pull → Pull
behind x nothing = nothing
behind x (found y rest) = found y (x ∷ rest)

abbrev pub pull : (ℕ → Bool) → List Mail → Pull
pull wanted [] = nothing
pull wanted (x ∷ l) = cond (wanted x.channel) (found x l) (behind x (pull wanted l))

-- "bit k of the mask stands for channel k"
abbrev pub bit : ℕ → ℕ → Bool
bit mask k = eqb (mask / 2 ^ k % 2) 1

-- ---- one instruction

abbrev pub register : Machine → ℕ → ℕ
register m a = get_or m.registers a 0

-- "each moving the place on by one unless said"
abbrev pub next : Machine → List ℕ → List Mail → Machine
next m registers mailbox = record { registers = registers; pc = suc m.pc; mailbox = mailbox }

-- TAKE: "remove the oldest unread word of channel operand, into a"
abbrev pub take1 : ℕ → Machine → Pull → Outcome
take1 a m nothing = no_mail
take1 a m (found x rest) = moved (next m (set m.registers a x.word) rest) (took x)

-- FIRST: "Remove the oldest unread word on any of them, into a; its channel number goes into a + 1"
abbrev pub first1 : ℕ → Machine → Pull → Outcome
first1 a m nothing = no_mail
first1 a m (found x rest) = moved (next m (set (set m.registers a x.word) (suc a) x.channel) rest) (took x)

unfoldable pub execute : Instruction → Machine → Outcome
execute (SET a v) m = moved (next m (set m.registers a v) m.mailbox) internal
execute (ADD a b) m = moved (next m (set m.registers a ((register m a + register m b) % 2 ^ 32)) m.mailbox) internal
execute (TAKE a k) m = take1 a m (pull (eqb k) m.mailbox)
execute (FIRST a mask) m = first1 a m (pull (bit mask) m.mailbox)
execute (SEND a k) m = moved (next m m.registers m.mailbox) (sent (record { channel = k; word = register m a }))
execute (JUMP a n) m =
    moved (record { registers = m.registers; pc = cond (eqb (register m a) 0) (suc m.pc) n; mailbox = m.mailbox }) internal
execute NONE m = halted

-- the instruction at the machine's place
abbrev pub instruction_at : List Instruction → Machine → Instruction
instruction_at code m = get_or code m.pc (SET 0 0)

unfoldable pub local_step : List Instruction → Machine → Outcome
unfolding execute
local_step code m = cond (ltb m.pc (length code)) (execute (instruction_at code m) m) halted

-- a word arrives
unfoldable pub delivered : Mail → Machine → Machine
delivered x m = record { registers = m.registers; pc = m.pc; mailbox = m.mailbox ++ (x ∷ []) }
