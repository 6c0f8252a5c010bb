-- Whose the entries of a queue and the words of a mailbox are: an entry stands on the board of the process that it comes from and on no
-- other, a mailbox has words of its process's channels only.
use Rattle.std.proofs.Common.{◌≡◌, ℕ, ◌<◌, true, false, ◌≢◌, List, [], ◌∷◌, length, sym, refl, ap, ◌∙◌, arith, ne_eqb}
use Rattle.facts.specs.Tests.{no_way}
use Rattle.backup.specs.Replica.{Checkpoint}
use Rattle.rules.specs.Table.{Table, environment, channel_at}
use Rattle.rules.specs.Machine.{Mail}
use Rattle.rules.specs.Cabinet.{Item, message, checkpoint, transfer, Cabinet, process_at, outbox_at, dead_at, unread_on, queued_on, in_flight, waiting}
use Rattle.rules.proofs.Invariant.{owner_of, mine, mine_same, mine_other, owner}
use Rattle.state.specs.Moved.{Reachable}
use Rattle.state.proofs.Ends.{small}
use Rattle.state.proofs.Known.{known}
use Rattle.state.proofs.Reaching.{bounds, channel_bounds}

-- ---- a queue with no item of process p

module _ (t : Table) where
  first-other : (p : ℕ) (item : Item) (q : List Item) → mine t p (item ∷ q) ≡ [] → p ≢ owner_of t item
  first-other p item q h e = no_way (let a = mine_same t p item q e in cc)

  rest-other : (p : ℕ) (item : Item) (q : List Item) → mine t p (item ∷ q) ≡ [] → mine t p q ≡ []
  rest-other p item q h = sym (mine_other t p item q (first-other p item q h)) ∙ h

  -- no word of a channel that p sends on
  pub none-queued : (k : ℕ) (q : List Item) → mine t (channel_at t k).sender q ≡ [] → queued_on k q ≡ 0
  none-queued k [] h = refl
  none-queued k (message x pc ∷ q) h =
      rw (ne_eqb k x.channel (λ e. first-other (channel_at t k).sender (message x pc) q h (ap (λ (j : ℕ). (channel_at t j).sender) e)))
      (none-queued k q (rest-other (channel_at t k).sender (message x pc) q h))
  none-queued k (checkpoint p s ∷ q) h = none-queued k q (rest-other (channel_at t k).sender (checkpoint p s) q h)
  none-queued k (transfer p ∷ q) h = none-queued k q (rest-other (channel_at t k).sender (transfer p) q h)

  -- no checkpoint or transfer of p
  pub none-waiting : (p : ℕ) (q : List Item) → mine t p q ≡ [] → waiting p q ≡ false
  none-waiting p [] h = refl
  none-waiting p (message x pc ∷ q) h = none-waiting p q (rest-other p (message x pc) q h)
  none-waiting p (checkpoint r s ∷ q) h = rw (ne_eqb p r (first-other p (checkpoint r s) q h)) (none-waiting p q (rest-other p (checkpoint r s) q h))
  none-waiting p (transfer r ∷ q) h = rw (ne_eqb p r (first-other p (transfer r) q h)) (none-waiting p q (rest-other p (transfer r) q h))

module _ {t : Table} {c : Cabinet} (r : Reachable t c) where
  -- ---- the oldest entry is one of a process that runs there

  owned : (b : ℕ) (item : Item) (rest : List Item) → outbox_at c b ≡ item ∷ rest → (owner_of t item < length t.processes) × ((process_at c (owner_of t item)).board ≡ b)
  owned b item rest e =
      let o = owner t c (known r).reference b item rest (known r).invariant e in
      (rw (known r).invariant.all_processes at o.there, o.runs)

  pub word_owner : (b : ℕ) (x : Mail) (pc : ℕ) (rest : List Item) → outbox_at c b ≡ message x pc ∷ rest
      → ((channel_at t x.channel).sender < length t.processes) × ((process_at c (channel_at t x.channel).sender).board ≡ b)
  word_owner b x pc rest e = owned b (message x pc) rest e

  pub checkpoint_owner : (b p : ℕ) (s : Checkpoint) (rest : List Item) → outbox_at c b ≡ checkpoint p s ∷ rest
      → (p < length t.processes) × ((process_at c p).board ≡ b)
  checkpoint_owner b p s rest e = owned b (checkpoint p s) rest e

  pub transfer_owner : (b p : ℕ) (rest : List Item) → outbox_at c b ≡ transfer p ∷ rest → (p < length t.processes) × ((process_at c p).board ≡ b)
  transfer_owner b p rest e = owned b (transfer p) rest e

  -- so that a dead board has no entry: every process runs on a live one
  pub dead-empty : (b : ℕ) → dead_at c b ≡ true → outbox_at c b ≡ []
  dead-empty b dead = go (outbox_at c b) refl
    where
      go : (q : List Item) → outbox_at c b ≡ q → q ≡ []
      go [] e = refl
      go (item ∷ rest) e =
          let o = owned b item rest e in
          absurd (no_way (let a = (bounds r (owner_of t item) o.0).live in let d = ap (dead_at c) o.1 in cc))

  -- ---- elsewhere nothing of p

  pub mine_elsewhere : (p b : ℕ) → (process_at c p).board ≢ b → mine t p (outbox_at c b) ≡ []
  mine_elsewhere p b n = (known r).invariant.own b p (λ _ e. n e)

  pub waiting_elsewhere : (p b : ℕ) → (process_at c p).board ≢ b → waiting p (outbox_at c b) ≡ false
  waiting_elsewhere p b n = none-waiting t p (outbox_at c b) (mine_elsewhere p b n)

  pub queued_elsewhere : (k b : ℕ) → (process_at c (channel_at t k).sender).board ≢ b → queued_on k (outbox_at c b) ≡ 0
  queued_elsewhere k b n = none-queued t k (outbox_at c b) (mine_elsewhere (channel_at t k).sender b n)

  -- no word of a channel that is fed from outside is in a queue
  pub fed-not-queued : (k : ℕ) → (channel_at t k).sender ≡ environment → in_flight k c.outboxes ≡ 0
  fed-not-queued k e =
      let b : ℕ = (process_at c (channel_at t k).sender).board in
      (channel_bounds r k).queued
      ∙ none-queued t k (outbox_at c b) ((known r).invariant.own b (channel_at t k).sender (λ l _. let a = small r.accepted in let d = (known r).invariant.all_processes in absurd (omega arith)))

  -- a mailbox has words of its process's channels only
  pub unread_own : (p : ℕ) → p < length t.processes → (k : ℕ) → (channel_at t k).reader ≢ p → unread_on k (process_at c p).machine.mailbox ≡ 0
  unread_own p l k n = ((known r).room p (rw (known r).invariant.all_processes l)).own k n
