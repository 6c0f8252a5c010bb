-- What a resync makes of one process: the record that is being made, by the record's own calls. Document 02, W-210: "its snapshot and
-- copies of all its unread words".
use Rattle.std.specs.Prelude.{◌≡◌, List, ◌++◌, map, ℕ, ◌+◌, ◌%◌, ◌≤◌, ◌<◌, length}
use Rattle.backup.specs.Limits.{log_most, ports, pc_most}
use Rattle.backup.specs.Replica.{Message, Replica}
use Rattle.backup.specs.Place.{view_in, Sound}
use Rattle.backup.specs.declared.place.Head.{Head}
use Rattle.rules.specs.Table.{Table, placement_at, port_of}
use Rattle.rules.specs.Machine.{Mail}
use Rattle.rules.specs.Moves.{begin_transfer}
use Rattle.plan.specs.Plan.{port_in}
use Rattle.plan.specs.declared.Wire.{Wire}
use Rattle.rules.specs.Sizes.{channels_most}
use Rattle.process.specs.Row.{mail_in, packed_at, mails_in, mail_at, Kept, Seated}
use Rattle.process.specs.declared.process.Process as code
use Rattle.process.specs.Change.{Became}

-- the port of a word by the plan's wire of its channel, and the word as a message
abbrev pub port_for : List Wire → Mail → ℕ
port_for wires x = port_in wires (x.channel % channels_most)

abbrev pub copy_of : List Wire → Mail → Message
copy_of wires x = record { port = port_for wires x; word = x.word }

-- a record with more messages behind those that it has
abbrev pub with_more : List Message → Replica → Replica
with_more l r = record { log = r.log ++ l; sent = r.sent; pc = r.pc; registers = r.registers }

-- copies of the len words of a mailbox from place `first` on joined a record; it is sound again, and has them all where they are on ports and
-- there is room
pub record Copied (mail : List ℕ) (first len : ℕ) (wires : List Wire) (log : List ℕ) (head : Head) (log' : List ℕ) (head' : Head) : Type 0 where
  pub sound_again : Sound log head → Sound log' head'
  pub value_is : Sound log head → ((i : ℕ) → i < len → port_for wires (mail_in (packed_at first mail i)) < ports)
      → length (view_in log head).log + len ≤ log_most
      → view_in log' head' ≡ with_more (map (copy_of wires) (mails_in first len mail)) (view_in log head)

-- each unread word is on a port of process p, which the plan's wires have
abbrev pub OnPorts : Table → ℕ → List Wire → code.Process → Type 0
OnPorts t p wires x =
    (i : ℕ) → i < x.unread
    → (let y = mail_at x i in (port_for wires y ≡ port_of t p y.channel) × (port_of t p y.channel < ports))

-- the process with a record being made, as the rules' `begin_transfer` has it
abbrev pub BeginsTransfer : code.Process → List Wire → code.Process → Type 0
BeginsTransfer x wires x' =
    Kept x → (t : Table) (p : ℕ) → OnPorts t p wires x → x.pc ≤ pc_most
    → Seated (placement_at t p).primary (placement_at t p).standby x → Became x x' (begin_transfer t p)
