-- Of each process at most one checkpoint or state transfer waits in any queue, also where it has lost its backup (document 01: "One sync a process
-- may be waiting there"; W-210: 41 "for a waiting resync too"): behind an oldest entry that is one of them none of the same process waits.
use Rattle.std.proofs.Common.{◌≡◌, ℕ, suc, Bool, true, false, cond, ◌||◌, List, [], ◌∷◌, refl, ap, ◌∙◌, arith}
use Rattle.rules.specs.Table.{Table}
use Rattle.rules.specs.Cabinet.{Item, Cabinet, outbox_at, is_waiter_of, waiting}
use Rattle.rules.specs.Rebackup.{pending_of}
use Rattle.rules.proofs.Pending.{one_pending}
use Rattle.state.specs.Moved.{Reachable}
use Rattle.state.proofs.Known.{known}

none_pending : (p : ℕ) (q : List Item) → pending_of p q ≡ 0 → waiting p q ≡ false
none_pending p [] h = refl
none_pending p (item ∷ q) h = go (is_waiter_of p item) h (none_pending p q)
  where
    go : (b : Bool) → cond b (suc (pending_of p q)) (pending_of p q) ≡ 0 → (pending_of p q ≡ 0 → waiting p q ≡ false) → (b || waiting p q) ≡ false
    go true k rest = absurd (omega arith)
    go false k rest = rest k

pub one_waits : {t : Table} {c : Cabinet} → Reachable t c → (b p : ℕ) (item : Item) (rest : List Item) → outbox_at c b ≡ item ∷ rest → is_waiter_of p item ≡ true
    → waiting p rest ≡ false
one_waits {t} {c} r b p item rest e is =
    let a = one_pending (known r).invariant b p in
    let d : pending_of p (outbox_at c b) ≡ suc (pending_of p rest) = ap (pending_of p) e ∙ ap (λ (x : Bool). cond x (suc (pending_of p rest)) (pending_of p rest)) is in
    none_pending p rest (omega arith)
