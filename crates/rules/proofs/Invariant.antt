-- What holds of the whole cabinet beside a reference machine, in every state that commands reach.
use mathlib.Core.Logic.{◌≢◌}
use mathlib.Core.Path.{◌≡◌, refl}
use mathlib.Core.Bool.{Bool, true, false, cond}
use mathlib.Core.Option.{some}
use mathlib.Core.List.{List, [], ◌∷◌, ◌++◌}
use Prim.Native.Nat.{ℕ, ◌≤◌, ◌<◌}
use native.Mathlib.Omega.{arith}
use lib.Dec.{eqb}
use lib.ListN.{length, get_or}
use borrow.Author.Tests.{eq-eqb, ne_eqb}
use Rattle.facts.specs.Tests.{no_way, by_eq, by_lt}
use Rattle.backup.specs.Limits.{log_most}
use Rattle.rules.specs.Table.{Table, environment, channel_at}
use Rattle.rules.specs.Machine.{Mail, Machine, booted}
use Rattle.rules.specs.Reference.{Reference}
use Rattle.rules.specs.Cabinet.{Standby, Process, Item, message, checkpoint, transfer, Cabinet, process_at, outbox_at, unread_on, full}
use Rattle.rules.proofs.Good.{Good}

-- ---- a process's own items of an outbox

-- the process that an item comes from: a word names its channel and so its sender
abbrev pub owner_of : Table → Item → ℕ
owner_of t (message x pc) = (channel_at t x.channel).sender
owner_of t (checkpoint p s) = p
owner_of t (transfer p) = p

abbrev pub mine : Table → ℕ → List Item → List Item
mine t p [] = []
mine t p (item ∷ q) = cond (eqb p (owner_of t item)) (item ∷ mine t p q) (mine t p q)

pub mine_same : (t : Table) (p : ℕ) (item : Item) (q : List Item) → p ≡ owner_of t item → mine t p (item ∷ q) ≡ item ∷ mine t p q
mine_same t p item q h = rw (eq-eqb p (owner_of t item) h)

pub mine_other : (t : Table) (p : ℕ) (item : Item) (q : List Item) → p ≢ owner_of t item → mine t p (item ∷ q) ≡ mine t p q
mine_other t p item q h = rw (ne_eqb p (owner_of t item) h)

pub mine_append : (t : Table) (p : ℕ) (q r : List Item) → mine t p (q ++ r) ≡ mine t p q ++ mine t p r
mine_append t p [] r = refl
mine_append t p (item ∷ q) r = rw (mine_append t p q r) (go (eqb p (owner_of t item)))
  where
    go : (b : Bool) → cond b (item ∷ (mine t p q ++ mine t p r)) (mine t p q ++ mine t p r) ≡ cond b (item ∷ mine t p q) (mine t p q) ++ mine t p r
    go true = refl
    go false = refl

-- ---- the invariant

abbrev pub machine_at : Reference → ℕ → Machine
machine_at s p = get_or s.machines p booted

-- a board of the table that has not crashed
pub record Live (t : Table) (dead : List Bool) (b : ℕ) : Type 0 where
  pub there : b < t.boards
  pub live : get_or dead b false ≡ false

-- where a process runs, and where its backup is
pub record Seated (t : Table) (dead : List Bool) (x : Process) : Type 0 where
  pub at : Live t dead x.board
  pub beside : (s : Standby) → x.standby ≡ some s → Live t dead s.board
  pub apart : (s : Standby) → x.standby ≡ some s → s.board ≢ x.board

-- process p beside its machine in the reference, with its own items of its board's outbox
abbrev pub GoodAt : Table → Cabinet → Reference → ℕ → Type 0
GoodAt t c s p = Good t p (mine t p (outbox_at c (process_at c p).board)) (process_at c p) (machine_at s p)

pub record Invariant (t : Table) (c : Cabinet) (s : Reference) : Type 0 where
  pub same_number : length c.processes ≡ length s.machines
  pub all_processes : length c.processes ≡ length t.processes
  pub all_outboxes : length c.outboxes ≡ t.boards
  pub all_boards : length c.dead ≡ t.boards
  pub good : (p : ℕ) → p < length c.processes → GoodAt t c s p
  -- an item of p stands in the outbox of p's board, and in no other
  pub own : (b p : ℕ) → (p < length c.processes → (process_at c p).board ≡ b → ⊥) → mine t p (outbox_at c b) ≡ []
  pub seated : (p : ℕ) → p < length c.processes → Seated t c.dead (process_at c p)

-- a process of the cabinet is one of the table and of the reference, and its board has an outbox
module _ {t : Table} {c : Cabinet} {s : Reference} (inv : Invariant t c s) {p : ℕ} (hp : p < length c.processes) where
  pub in_table : p < length t.processes
  in_table = rw inv.all_processes at hp

  pub in_reference : p < length s.machines
  in_reference = rw inv.same_number at hp

  pub its_outbox : (process_at c p).board < length c.outboxes
  its_outbox = rw inv.all_outboxes (inv.seated p hp).at.there

-- ---- room in the log for a word that is about to arrive: what the bounds supply

abbrev pub RoomFor : Table → Cabinet → ℕ → Type 0
RoomFor t c k = (s : Standby) → (process_at c (channel_at t k).reader).standby ≡ some s → length s.replica.log < log_most

-- what makes a copy of p's unread words a log: they are few, and of channels that it reads
pub record Copyable (t : Table) (c : Cabinet) (p : ℕ) : Type 0 where
  pub short : length (process_at c p).machine.mailbox ≤ log_most
  pub own : (k : ℕ) → (channel_at t k).reader ≢ p → unread_on k (process_at c p).machine.mailbox ≡ 0

pub record Roomy (t : Table) (c : Cabinet) : Type 0 where
  -- for a feed that is not refused
  pub for_feed : (k : ℕ) → (channel_at t k).sender ≡ environment → full t c k ≡ false → RoomFor t c k
  -- for the oldest item of an outbox
  pub for_oldest : (b : ℕ) (x : Mail) (pc : ℕ) (rest : List Item) → outbox_at c b ≡ message x pc ∷ rest → RoomFor t c x.channel
  -- for the copies of a resync
  pub for_copies : (p : ℕ) → p < length c.processes → Copyable t c p

-- ---- the oldest item of an outbox is one of a process that runs there

pub record Owner (c : Cabinet) (b p : ℕ) : Type 0 where
  pub there : p < length c.processes
  pub runs : (process_at c p).board ≡ b

pub owner : (t : Table) (c : Cabinet) (s : Reference) (b : ℕ) (item : Item) (rest : List Item) → Invariant t c s → outbox_at c b ≡ item ∷ rest
    → Owner c b (owner_of t item)
owner t c s b item rest inv h =
    let p : ℕ = owner_of t item in
    by_lt p (length c.processes)
    (λ l. by_eq (process_at c p).board b (λ e. record { there = l; runs = e }) (λ n. absurd (no_other (λ _ e. n e))))
    (λ n. absurd (no_other (λ l _. omega arith)))
  where
    no_other : (owner_of t item < length c.processes → (process_at c (owner_of t item)).board ≡ b → ⊥) → ⊥
    no_other n =
        no_way (let a : mine t (owner_of t item) (item ∷ rest) ≡ [] = rw h at (inv.own b (owner_of t item) n) in let d = mine_same t (owner_of t item) item rest refl in cc)
