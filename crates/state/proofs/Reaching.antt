-- What is known of a cabinet that a list of commands reaches: the bounds of the rules.
use Rattle.std.proofs.Common.{◌≡◌, ℕ, ◌<◌, List, length, sym, ◌∙◌, subst}
use lib.ListN.{length-map}
use Rattle.facts.specs.Rings.{listed-length, ring}
use Rattle.rules.specs.Table.{Table}
use Rattle.rules.specs.Cabinet.{Cabinet}
use Rattle.rules.specs.Bounds.{Bounds, OutboxBounds, ChannelBounds}
use Rattle.rules.proofs.Reached.{bounded, channels_bounded}
use Rattle.rules.proofs.Outboxes.{outboxes_bounded}
use Rattle.state.specs.declared.entry.Entry.{Entry}
use Rattle.state.specs.declared.queue.Queue.{Queue}
use Rattle.state.specs.Queue.{first_in, count_in}
use Rattle.state.specs.Store.{outbox_in, blank_entry}
use Rattle.state.specs.Moved.{Reachable}

module _ {t : Table} {c : Cabinet} (r : Reachable t c) where
  pub bounds : (p : ℕ) → p < length t.processes → Bounds t c p
  bounds p l = subst (λ (x : Cabinet). Bounds t x p) (sym r.is-reached) (bounded r.accepted r.commands p l)

  pub outbox_bounds : OutboxBounds c
  outbox_bounds = subst OutboxBounds (sym r.is-reached) (outboxes_bounded t r.commands)

  pub channel_bounds : (k : ℕ) → ChannelBounds t c k
  channel_bounds k = subst (λ (x : Cabinet). ChannelBounds t x k) (sym r.is-reached) (channels_bounded r.accepted r.commands k)

-- a queue has as many entries as its count says
pub queue_length_lem : (queues : List Queue) (entries : List Entry) (b : ℕ) → length (outbox_in queues entries b) ≡ count_in queues b
unfolding outbox_in ring
queue_length_lem queues entries b = length-map (ring blank_entry entries b (first_in queues b) (count_in queues b)) _ ∙ listed-length _ (count_in queues b)
