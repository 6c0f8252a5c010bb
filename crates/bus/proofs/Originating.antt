-- W-212: what the code takes for the origin of a carried word is what tells it by the rules.
use Rattle.std.proofs.Common.{◌≡◌, ℕ, ◌%◌, ◌<◌, List, [], ◌∷◌, get_or, sym, ap, ◌∙◌, arith, eq-eqb, ne_eqb}
use Rattle.facts.specs.Tests.{by_eq}
use Rattle.plan.specs.Plan.{Plan, Planned, sender_in}
use Rattle.rules.specs.Table.{Table, channel_at}
use Rattle.rules.specs.Machine.{Origin}
use Rattle.rules.specs.Cabinet as rules
use Rattle.rules.specs.Cabinet.{Cabinet, outbox_at}
use Rattle.rules.specs.Moves.{transmit_move}
use Rattle.rules.specs.Origins.{oldest_origin, told_by}
use Rattle.state.specs.declared.entry.Entry.{Entry}
use Rattle.state.specs.declared.entry.Item.{Item}
use Rattle.state.specs.declared.entry.Item.TheVariants.{Word, Sync, Transfer}
use Rattle.state.specs.declared.store.Store.{Store}
use Rattle.state.specs.Queue.{no_queue, count_in, oldest_of}
use Rattle.state.specs.Store.{item_of, Holds, blank_entry}
use Rattle.state.specs.Moved.{Reachable}
use Rattle.state.proofs.Ends.{sent-inside}
use Rattle.state.proofs.Owners.{word_owner}
use Rattle.bus.specs.Origins.{FromEntry, CarriedFrom}
use Rattle.bus.proofs.Transmitting.{none-waits, begins}

module _ {t : Table} {l : Plan} {s : Store} {entries : List Entry} {c : Cabinet} (reach : Reachable t c) (planned : Planned t l)
    (h : Holds t s entries c) (a : ℕ) (ha : a < t.boards) where
  -- an entry in front: the sender of a word is a process of the table, and its number a byte
  from_front : (i : Item) (rest : List rules.Item) → outbox_at c a ≡ item_of i ∷ rest → (o : Origin) → FromEntry l.wires i o
      → oldest_origin t (item_of i ∷ rest) ≡ o
  from_front (Word channel word pc) rest e o f =
      let own = (word_owner reach a (record { channel = channel; word = word }) pc rest e).0 in
      let there = sent-inside reach.accepted channel own in
      let is-sender = planned.sender_at channel there in
      let y = reach.accepted.channels_high in
      let z = reach.accepted.processes_high in
      let fits : (channel_at t channel).sender ≡ sender_in l.wires channel % 256 = omega arith in
      ap (λ (k : ℕ). record { sender = k; pc = pc }) fits ∙ sym (f (omega arith))
  from_front (Sync p k) rest e o f = sym f
  from_front (Transfer p) rest e o f = sym f

  -- x stands where the board's oldest entry does
  pub carried_told : (x : Entry) → x ≡ get_or entries (oldest_of (get_or s.queues a no_queue) a) blank_entry → (code : ℕ) (o : Origin)
      → CarriedFrom l.wires code x o → (code ≡ 4 → outbox_at c a ≡ [] → ⊥) → told_by t (outbox_at c a) code transmit_move ≡ o
  carried_told x is_x code o f waited =
      by_eq code 4
      (λ e. rw (eq-eqb code 4 e)
      (by_eq (count_in s.queues a) 0
      (λ z. absurd (waited e (none-waits h a ha z)))
      (λ n.
      let q = begins h a ha n in
      let first : outbox_at c a ≡ item_of x.item ∷ q.rest = q.is_queue ∙ ap (λ (y : Entry). item_of y.item ∷ q.rest) (sym is_x) in
      ap (oldest_origin t) first ∙ from_front x.item q.rest first o (f.on_bus_lem e))))
      (λ n. rw (ne_eqb code 4 n) (sym (f.off_bus n)))
