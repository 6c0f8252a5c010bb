-- The words in flight on a channel wait in the outbox of its sender's board, and in no other.
use mathlib.Core.Logic.{◌≢◌}
use mathlib.Core.Path.{◌≡◌, refl, ap, sym, ◌∙◌}
use mathlib.Core.Bool.{Bool, true, false, cond}
use mathlib.Core.List.{List, [], ◌∷◌}
use Prim.Native.Nat.{ℕ, suc, ◌≤◌}
use native.Mathlib.Omega.{arith}
use lib.Dec.{eqb}
use lib.ListN.{length}
use borrow.Author.Tests.{eqb-true, eq-eqb}
use Rattle.facts.specs.Tests.{no_way}
use Rattle.facts.specs.Counts.{total_one}
use Rattle.rules.specs.Table.{Table, channel_at}
use Rattle.rules.specs.Reference.{Reference}
use Rattle.rules.specs.Cabinet.{Item, message, checkpoint, transfer, Cabinet, process_at, outbox_at, is_on, queued_on}
use Rattle.rules.specs.Bounds.{OutboxBounds, ChannelBounds}
use Rattle.rules.proofs.Invariant.{mine, Invariant}
use Rattle.rules.proofs.Counting.{flight_total}

-- a word of channel k is one of its sender's own items
queued_mine : (t : Table) (k : ℕ) (q : List Item) → queued_on k q ≤ length (mine t (channel_at t k).sender q)
queued_mine t k [] = omega arith
queued_mine t k (message x pc ∷ q) =
    go (eqb k x.channel) (eqb (channel_at t k).sender (channel_at t x.channel).sender) refl refl (queued_mine t k q)
  where
    go : (a b : Bool) → eqb k x.channel ≡ a → eqb (channel_at t k).sender (channel_at t x.channel).sender ≡ b
        → queued_on k q ≤ length (mine t (channel_at t k).sender q)
        → cond a (suc (queued_on k q)) (queued_on k q)
        ≤ length (cond b (message x pc ∷ mine t (channel_at t k).sender q) (mine t (channel_at t k).sender q))
    go true true ha hb h = omega arith
    go true false ha hb h =
        let same : eqb (channel_at t k).sender (channel_at t x.channel).sender ≡ true =
        eq-eqb _ _ (ap (λ (j : ℕ). (channel_at t j).sender) (eqb-true k x.channel ha)) in
        absurd (no_way (cc))
    go false true ha hb h = omega arith
    go false false ha hb h = h
queued_mine t k (checkpoint p s ∷ q) = go (eqb (channel_at t k).sender p) (queued_mine t k q)
  where
    go : (b : Bool) → queued_on k q ≤ length (mine t (channel_at t k).sender q)
        → queued_on k q ≤ length (cond b (checkpoint p s ∷ mine t (channel_at t k).sender q) (mine t (channel_at t k).sender q))
    go true h = omega arith
    go false h = h
queued_mine t k (transfer p ∷ q) = go (eqb (channel_at t k).sender p) (queued_mine t k q)
  where
    go : (b : Bool) → queued_on k q ≤ length (mine t (channel_at t k).sender q)
        → queued_on k q ≤ length (cond b (transfer p ∷ mine t (channel_at t k).sender q) (mine t (channel_at t k).sender q))
    go true h = omega arith
    go false h = h

queued-short : (k : ℕ) (q : List Item) → queued_on k q ≤ length q
queued-short k [] = omega arith
queued-short k (x ∷ q) = go (is_on k x) (queued-short k q)
  where
    go : (b : Bool) → queued_on k q ≤ length q → cond b (suc (queued_on k q)) (queued_on k q) ≤ suc (length q)
    go true h = omega arith
    go false h = omega arith

pub channel_bounds : (t : Table) (c : Cabinet) (s : Reference) → Invariant t c s → OutboxBounds c → (k : ℕ) → ChannelBounds t c k
channel_bounds t c s inv short k =
    let b : ℕ = (process_at c (channel_at t k).sender).board in
    let elsewhere : (j : ℕ) → j ≢ b → queued_on k (outbox_at c j) ≡ 0 =
    λ j n. (let a = queued_mine t k (outbox_at c j) in
    let e : length (mine t (channel_at t k).sender (outbox_at c j)) ≡ 0 = ap length (inv.own j (channel_at t k).sender (λ _ f. n (sym f))) in
    omega arith) in
    let one = flight_total k c.outboxes ∙ total_one (queued_on k) c.outboxes b [] refl elsewhere in
    let most = queued-short k (outbox_at c b) in
    let here = short b in
    record { queued = one; few = omega arith }
