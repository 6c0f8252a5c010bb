-- "Those copies count on no channel, neither for 39 and 49 nor in the totals": a resync and its carry leave every total as it was.
use mathlib.Core.Path.{◌≡◌, refl, ap, subst}
use mathlib.Core.List.{List, [], ◌∷◌, ◌++◌}
use Prim.Native.Nat.{ℕ}
use native.Mathlib.Omega.{arith}
use lib.ListN.{length, get_or, set}
use lib.Seq.{get_or-set_same, get_or-set_other, set_out}
use Rattle.facts.specs.Tests.{by_eq, by_lt}
use Rattle.rules.specs.Table.{Table, channel_at}
use Rattle.rules.specs.Machine.{Machine}
use Rattle.rules.specs.Cabinet.{Process, Item, transfer, Cabinet, nobody, process_at, outbox_at, unread_on, in_flight, occupancy}
use Rattle.rules.specs.Moves.{Answer, accept, with_process, with_outbox, rebackup_done, end_transfer, begin_transfer, rebackup}
use Rattle.rules.specs.Rebackup.{SameTotals}
use Rattle.rules.proofs.Counting.{flight_joined, flight_leave}
use Rattle.rules.proofs.Guards.{rebackup_by, guard-accepted}

-- process p has another record, and the machine that it had
same-machine : (l : List Process) (p j : ℕ) (y : Process) → y.machine ≡ (get_or l p nobody).machine → (get_or (set l p y) j nobody).machine ≡ (get_or l j nobody).machine
same-machine l p j y e =
    by_lt p (length l)
    (λ h. by_eq j p
    (λ f. rw (f, get_or-set_same l p y nobody h) e)
    (λ n. ap (λ (x : Process). x.machine) (get_or-set_other l p j y nobody n)))
    (λ h. ap (λ (m : List Process). (get_or m j nobody).machine) (set_out l p y h))

-- the outboxes change, and no word on any channel with them
pub same-totals : (t : Table) (c : Cabinet) (p : ℕ) (y : Process) (qs : List (List Item)) → y.machine ≡ (process_at c p).machine
    → ((k : ℕ) → in_flight k qs ≡ in_flight k c.outboxes) → SameTotals t c (record { processes = set c.processes p y; outboxes = qs; dead = c.dead })
unfolding occupancy
same-totals t c p y qs e f k =
    let a = ap (λ (m : Machine). unread_on k m.mailbox) (same-machine c.processes p (channel_at t k).reader y e) in
    let b = f k in
    omega arith

pub resync_uncounted : (t : Table) (c : Cabinet) (p : ℕ) (d : Cabinet) (a : Answer) → rebackup t c p ≡ accept d a → SameTotals t c d
unfolding rebackup begin_transfer
resync_uncounted t c p d a e =
    let made : accept (rebackup_by t p c) rebackup_done ≡ accept d a = guard-accepted _ _ _ (guard-accepted _ _ _ (guard-accepted _ _ _ (guard-accepted _ _ _ e))) in
    let same : rebackup_by t p c ≡ d = cc in
    let B : ℕ = (process_at c p).board in
    let q : List Item = outbox_at c B ++ (transfer p ∷ []) in
    subst (SameTotals t c) same
    (same-totals t c p (begin_transfer t p (process_at c p)) (set c.outboxes B q) refl
    (λ k. by_lt B (length c.outboxes)
    (λ h. let j = flight_joined k c.outboxes B (transfer p) h in omega arith)
    (λ h. ap (in_flight k) (set_out c.outboxes B q h))))

pub carry_uncounted : (t : Table) (c : Cabinet) (b p : ℕ) (rest : List Item) → outbox_at c b ≡ transfer p ∷ rest
    → SameTotals t c (with_process p (end_transfer (process_at c p)) (with_outbox b rest c))
unfolding end_transfer
carry_uncounted t c b p rest e =
    same-totals t c p (end_transfer (process_at c p)) (set c.outboxes b rest) refl (λ k. let l = flight_leave k c.outboxes b (transfer p) rest e in omega arith)
