-- What waits, in every state that commands reach: a transfer that is about to be carried is one of a process whose record is being made, with
-- count 0; a process whose record is being made has its transfer waiting; and at most one sync or resync of a process waits.
use mathlib.Core.Path.{◌≡◌, refl, ap, sym, ◌∙◌, subst}
use mathlib.Core.Bool.{Bool, true, false, cond, ◌||◌}
use mathlib.Core.Option.{some}
use mathlib.Core.List.{List, [], ◌∷◌, ◌++◌}
use Prim.Native.Nat.{ℕ, suc, ◌≤◌, ◌<◌}
use native.Mathlib.Omega.{arith}
use lib.Dec.{eqb}
use lib.ListN.{length}
use borrow.Author.Tests.{eq-eqb}
use Rattle.facts.specs.Tests.{no_way, by_eq, by_lt}
use Rattle.rules.specs.Table.{Table}
use Rattle.rules.specs.Machine.{Machine, Act}
use Rattle.rules.specs.Reference.{Reference}
use Rattle.rules.specs.Cabinet.{Standby, Process, Item, message, checkpoint, transfer, Cabinet, process_at, outbox_at, is_waiter_of, waiting, started}
use Rattle.rules.specs.Moves.{Command, run_from}
use Rattle.rules.specs.Judge.{Accepted}
use Rattle.rules.specs.Rebackup.{BeingMade, pending_of}
use Rattle.rules.proofs.Ahead.{checkpoints, checkpoints_append, no_transfer}
use Rattle.rules.proofs.Good.{Link, trailing, coming, Good, backed, alone, late, good_backed}
use Rattle.rules.proofs.Invariant.{Invariant, mine, mine_same, owner_of, machine_at, owner}
use Rattle.rules.proofs.Start.{reached}

-- ---- its own items, and all of an outbox

pending_mine : (t : Table) (p : ℕ) (q : List Item) → checkpoints (mine t p q) ≡ pending_of p q
pending_mine t p [] = refl
pending_mine t p (item ∷ q) = go item (eqb p (owner_of t item)) refl (pending_mine t p q)
  where
    go : (i : Item) (b : Bool) → eqb p (owner_of t i) ≡ b → checkpoints (mine t p q) ≡ pending_of p q
        → checkpoints (cond b (i ∷ mine t p q) (mine t p q)) ≡ cond (is_waiter_of p i) (suc (pending_of p q)) (pending_of p q)
    go (message x pc) true e h = h
    go (message x pc) false e h = h
    go (checkpoint r k) true e h = rw e (ap suc h)
    go (checkpoint r k) false e h = rw e h
    go (transfer r) true e h = rw e (ap suc h)
    go (transfer r) false e h = rw e h

pub waits_mine : (t : Table) (p : ℕ) (q : List Item) → waiting p (mine t p q) ≡ waiting p q
waits_mine t p [] = refl
waits_mine t p (item ∷ q) = go item (eqb p (owner_of t item)) refl (waits_mine t p q)
  where
    go : (i : Item) (b : Bool) → eqb p (owner_of t i) ≡ b → waiting p (mine t p q) ≡ waiting p q
        → waiting p (cond b (i ∷ mine t p q) (mine t p q)) ≡ is_waiter_of p i || waiting p q
    go (message x pc) true e h = h
    go (message x pc) false e h = h
    go (checkpoint r k) true e h = rw e
    go (checkpoint r k) false e h = rw e h
    go (transfer r) true e h = rw e
    go (transfer r) false e h = rw e h

waits_there : (p : ℕ) (old new : List Item) → waiting p (old ++ (transfer p ∷ new)) ≡ true
waits_there p [] new = rw (eq-eqb p p refl)
waits_there p (y ∷ old) new = go (is_waiter_of p y) (waits_there p old new)
  where
    go : (b : Bool) → waiting p (old ++ (transfer p ∷ new)) ≡ true → b || waiting p (old ++ (transfer p ∷ new)) ≡ true
    go true h = refl
    go false h = h

-- ---- of one process

link_made : {t : Table} {p : ℕ} {s : Standby} {items : List Item} {m b : Machine} {since : List Act} {r : ℕ} → Link t p s (transfer r ∷ items) m since b
    → (s.complete ≡ false) × (s.replica.sent ≡ 0)
link_made (trailing l) = absurd (no_transfer l.ahead)
link_made (coming l) = (l.incomplete, l.uncounted)

link_waits : {t : Table} {p : ℕ} {s : Standby} {items : List Item} {m b : Machine} {since : List Act} → Link t p s items m since b
    → s.complete ≡ false → waiting p items ≡ true
link_waits (trailing l) e = absurd (no_way (let a = l.complete in cc))
link_waits {p = p} (coming l) e = ap (waiting p) l.is_items ∙ waits_there p l.old l.new

link_one : {t : Table} {p : ℕ} {s : Standby} {items : List Item} {m b : Machine} {since : List Act} → Link t p s items m since b → checkpoints items ≤ 1
link_one (trailing l) = l.one
link_one {p = p} (coming l) =
    let a = ap checkpoints l.is_items in
    let b = checkpoints_append l.old (transfer p ∷ l.new) in
    let c = l.none_else in
    omega arith

good_one : {t : Table} {p : ℕ} {items : List Item} {x : Process} {m : Machine} → Good t p items x m → checkpoints items ≤ 1
good_one (backed h) = link_one h.link
good_one (alone h) = h.one
good_one (late h) = rw h.no_items (omega arith)

-- ---- of a cabinet with the invariant

module _ {t : Table} {c : Cabinet} {s : Reference} (inv : Invariant t c s) where
  pub oldest-made : (b p : ℕ) (rest : List Item) → outbox_at c b ≡ transfer p ∷ rest → BeingMade c p
  oldest-made b p rest oldest =
      let o = owner t c s b (transfer p) rest inv oldest in
      let items : mine t p (outbox_at c (process_at c p).board) ≡ transfer p ∷ mine t p rest =
      ap (λ (j : ℕ). mine t p (outbox_at c j)) o.runs ∙ ap (mine t p) oldest ∙ mine_same t p (transfer p) rest refl in
      made (subst (λ (q : List Item). Good t p q (process_at c p) (machine_at s p)) items (inv.good p o.there))
    where
      made : Good t p (transfer p ∷ mine t p rest) (process_at c p) (machine_at s p) → BeingMade c p
      made (backed h) = let k = link_made h.link in record { standby = h.standby; is-standby = h.is-standby; incomplete = k.0; uncounted = k.1 }
      made (alone h) = absurd (no_transfer h.ahead)
      made (late h) = absurd (no_way (let e = h.no_items in cc))

  pub made-waits : (p : ℕ) → p < length c.processes → (k : Standby) → (process_at c p).standby ≡ some k → k.complete ≡ false
      → waiting p (outbox_at c (process_at c p).board) ≡ true
  made-waits p hp k e i =
      good_backed (λ (z : Standby). z.complete ≡ false → waiting p (outbox_at c (process_at c p).board) ≡ true) (inv.good p hp) e
      (λ h g. sym (waits_mine t p (outbox_at c (process_at c p).board)) ∙ link_waits h.link g) i

  pub one_pending : (b p : ℕ) → pending_of p (outbox_at c b) ≤ 1
  one_pending b p =
      by_lt p (length c.processes)
      (λ l. by_eq (process_at c p).board b
      (λ e. let a = good_one (inv.good p l) in
      let d = pending_mine t p (outbox_at c (process_at c p).board) in
      subst (λ (j : ℕ). pending_of p (outbox_at c j) ≤ 1) e (omega arith))
      (λ n. none-there (λ _ e. n e)))
      (λ n. none-there (λ l _. omega arith))
    where
      none-there : (p < length c.processes → (process_at c p).board ≡ b → ⊥) → pending_of p (outbox_at c b) ≤ 1
      none-there n = let a = ap checkpoints (inv.own b p n) in let d = pending_mine t p (outbox_at c b) in omega arith

-- ---- of every state that commands reach

module _ {t : Table} (ok : Accepted t) (commands : List Command) where
  -- "Until the entry is carried the process has no backup"
  pub transfer-made : (b p : ℕ) (rest : List Item) → outbox_at (run_from t (started t) commands).cabinet b ≡ transfer p ∷ rest
      → BeingMade (run_from t (started t) commands).cabinet p
  transfer-made b p rest oldest = oldest-made (reached t ok commands).follows.invariant b p rest oldest

  -- so that a second resync of it is refused with 41
  pub incomplete-waits : (p : ℕ) → p < length t.processes → (k : Standby) → (process_at (run_from t (started t) commands).cabinet p).standby ≡ some k
      → k.complete ≡ false → waiting p (outbox_at (run_from t (started t) commands).cabinet (process_at (run_from t (started t) commands).cabinet p).board) ≡ true
  incomplete-waits p h k e i =
      let inv = (reached t ok commands).follows.invariant in made-waits inv p (rw inv.all_processes h) k e i

  -- "One sync a process may be waiting there", or one resync
  pub one_waits : (b p : ℕ) → pending_of p (outbox_at (run_from t (started t) commands).cabinet b) ≤ 1
  one_waits b p = one_pending (reached t ok commands).follows.invariant b p
