-- The record that a resync makes: the unread words of a process, each by its port, are those words again, so that the record's state is the
-- process's machine.
use mathlib.Core.Logic.{◌≢◌}
use mathlib.Core.Path.{◌≡◌, refl, ap}
use mathlib.Core.List.{List, [], ◌∷◌, map}
use Prim.Native.Nat.{ℕ, ◌≤◌, ◌<◌}
use native.Mathlib.Omega.{arith}
use lib.Dec.{eqb}
use lib.ListN.{length, length-map}
use Rattle.facts.specs.Tests.{by_eq}
use Rattle.facts.specs.Counts.{same_yes, cond_more}
use Rattle.backup.specs.Limits.{log_most}
use Rattle.backup.specs.Replica.{Message}
use Rattle.rules.specs.Table.{Table, channel_at, code_of, inputs, port_of}
use Rattle.rules.specs.Machine.{Mail, Machine}
use Rattle.rules.specs.Cabinet.{unread_on}
use Rattle.rules.specs.Moves.{copied}
use Rattle.rules.specs.Judge.{Accepted}
use Rattle.rules.proofs.Tables.{input}
use Rattle.rules.proofs.Good.{mail_of, state_of, PortsBelow, no_ports, one_port, Kept}

abbrev pub message_of : Table → ℕ → Mail → Message
message_of t p x = record { port = port_of t p x.channel; word = x.word }

-- words of the channels that p reads
abbrev pub Own : Table → ℕ → List Mail → Type 0
Own t p l = (k : ℕ) → (channel_at t k).reader ≢ p → unread_on k l ≡ 0

module _ (t : Table) (ok : Accepted t) (p : ℕ) (hp : p < length t.processes) where
  pub first_own : (x : Mail) (l : List Mail) → Own t p (x ∷ l) → (channel_at t x.channel).reader ≡ p
  first_own x l own =
      by_eq (channel_at t x.channel).reader p (λ e. e)
      (λ n. absurd (let a = own x.channel n in
      let b = cond_more (eqb x.channel x.channel) (unread_on x.channel l) in let c = same_yes x.channel x.channel refl in omega arith))

  rest_own : (x : Mail) (l : List Mail) → Own t p (x ∷ l) → Own t p l
  rest_own x l own k n = let a = own k n in let b = cond_more (eqb k x.channel) (unread_on k l) in omega arith

  copied-ports : (l : List Mail) → Own t p l → PortsBelow (length (inputs t p)) (map (message_of t p) l)
  copied-ports [] own = no_ports
  copied-ports (x ∷ l) own = one_port (input t ok x.channel p hp (first_own x l own)).below (copied-ports l (rest_own x l own))

  copied_back : (l : List Mail) → Own t p l → map (mail_of t p) (map (message_of t p) l) ≡ l
  copied_back [] own = refl
  copied_back (x ∷ l) own =
      let e = (input t ok x.channel p hp (first_own x l own)).back in
      let r = copied_back l (rest_own x l own) in
      λ i. record { channel = e i; word = x.word } ∷ r i

  module _ (m : Machine) (own : Own t p m.mailbox) where
    pub copied_state : state_of t p (copied t p m) ≡ m
    unfolding state_of copied
    copied_state = ap (λ (l : List Mail). record { registers = m.registers; pc = m.pc; mailbox = l }) (copied_back m.mailbox own)

    pub copied-kept : length m.mailbox ≤ log_most → m.pc ≤ length (code_of t p) → Kept t p (copied t p m)
    unfolding copied
    copied-kept short low =
        record {
          on_inputs = copied-ports m.mailbox own;
          short = (let a = length-map m.mailbox (message_of t p) in omega arith);
          low = low;
        }
