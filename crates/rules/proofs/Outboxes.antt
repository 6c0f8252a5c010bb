-- No outbox is longer than document 01's limit, in any state: each move keeps it.
use mathlib.Core.Path.{◌≡◌, ap}
use mathlib.Core.Bool.{false}
use mathlib.Core.List.{List, [], ◌∷◌, ◌++◌}
use Prim.Native.Nat.{ℕ, suc, ◌≤◌}
use native.Mathlib.Omega.{arith}
use lib.Dec.{leb}
use lib.ListN.{length, get_or, set, length-append}
use lib.Seq.{get_or-set_same, get_or-set_other, set_out}
use borrow.Author.Tests.{leb-false}
use Rattle.facts.specs.Tests.{by_eq, by_lt}
use Rattle.facts.specs.Indexing.{get_or_replicate_any}
use Rattle.rules.specs.Table.{Table}
use Rattle.rules.specs.Cabinet.{outbox_most, Item, message, checkpoint, transfer, Cabinet, process_at, outbox_at, started}
use Rattle.rules.specs.Moves.{Command, snapshot, deliver, run_from}
use Rattle.rules.specs.Bounds.{OutboxBounds}
use Rattle.rules.proofs.Guards.{Leaves, after_run}

-- one outbox is replaced by a short one
replaced : (qs : List (List Item)) (b : ℕ) (q : List Item) → ((j : ℕ) → length (get_or qs j []) ≤ outbox_most) → length q ≤ outbox_most
    → (j : ℕ) → length (get_or (set qs b q) j []) ≤ outbox_most
replaced qs b q h short j =
    by_lt b (length qs)
    (λ l. by_eq j b
    (λ e. rw (e, get_or-set_same qs b q [] l) short)
    (λ n. rw (get_or-set_other qs b j q [] n) (h j)))
    (λ l. rw (set_out qs b q l) (h j))

module _ (t : Table) (c : Cabinet) (h : OutboxBounds c) where
  -- an entry joins one that isn't full
  joined : (b : ℕ) (x : Item) → leb outbox_most (length (outbox_at c b)) ≡ false → (j : ℕ) → length (get_or (set c.outboxes b (outbox_at c b ++ (x ∷ []))) j []) ≤ outbox_most
  joined b x free =
      replaced c.outboxes b (outbox_at c b ++ (x ∷ [])) h
      (let a = leb-false outbox_most (length (outbox_at c b)) free in let d = length-append (outbox_at c b) (x ∷ []) in omega arith)

  -- the oldest entry leaves
  left : (b : ℕ) (item : Item) (rest : List Item) → outbox_at c b ≡ item ∷ rest → (j : ℕ) → length (get_or (set c.outboxes b rest) j []) ≤ outbox_most
  left b item rest e = replaced c.outboxes b rest h (let a = h b in let d : length (outbox_at c b) ≡ suc (length rest) = ap length e in omega arith)

  keep_short : (r : Command) → Leaves t c r OutboxBounds
  unfolding deliver
  keep_short r = record {
    computes = λ _ _ _ _. h;
    takes = λ _ _ _ _ _. h;
    suppresses = λ _ _ _ _ _ _. h;
    sends = λ _ m mail _ _ _ free _. joined (process_at c r.a).board (message mail (process_at c r.a).machine.pc) free;
    issues = λ _ _ _ free. joined (process_at c r.a).board (checkpoint r.a (snapshot (process_at c r.a))) free;
    transmits = λ _ _ mail pc rest e. left r.a (message mail pc) rest e;
    syncs = λ _ _ p k rest e. left r.a (checkpoint p k) rest e;
    injects = λ _ _ _. h;
    completes = λ _ _ p rest e. left r.a (transfer p) rest e;
    crashes = λ _ _ _. replaced c.outboxes r.a [] h (omega arith);
    rejoins = λ _ _. replaced c.outboxes r.a [] h (omega arith);
    rebackups = λ _ _ _ _ _ _ free. joined (process_at c r.a).board (transfer r.a) free;
  }

start_short : (t : Table) → OutboxBounds (started t)
unfolding started
start_short t b = rw (get_or_replicate_any {A = List Item} t.boards b []) (omega arith)

pub outboxes_bounded : (t : Table) (commands : List Command) → OutboxBounds (run_from t (started t) commands).cabinet
outboxes_bounded t commands = after_run t (λ c r h. keep_short t c h r) (started t) commands (start_short t)
