-- The rounds of a sync's loops. W-205: "one pass over the saved words is enough: apart from the check for 20, the rounds of all loops in a
-- sync together are at most the words saved, by a count that is proved."
use Rattle.std.specs.Prelude.{◌≡◌, ℕ, zero, suc, ◌<◌, ◌≤◌, Bool, true, false, cond, ◌||◌, List, length, ◌==◌, ◌≢◌, nat_le}
use Rattle.std.proofs.Common.{arith, eq-eqb, ne_eqb, le-leb}
use Rattle.std.proofs.lemmas.Bool.{lt-leb}
use Rattle.facts.specs.Tests.{by_eq}
use Rattle.facts.specs.Sums.{sum_below, sum_same}
use Rattle.backup.specs.Limits.{ports}
use Rattle.backup.specs.Replica.{Replica, Checkpoint, taken_on, one_less}
use Rattle.backup.specs.Laws.{taken_less, taken-other}

-- how many messages were taken, on all ports together
abbrev pub all_taken : List ℕ → ℕ
all_taken taken = sum_below (taken_on taken) ports

-- nothing moves: nothing was taken, or no less than was saved
abbrev pub nothing_moves : Replica → Checkpoint → Bool
nothing_moves r c = all_taken c.taken == 0 || nat_le (length r.log) (all_taken c.taken)

-- The rounds of a sync that answered a number: none where it was refused or nothing moves, and else one for each saved word, those that go and
-- those that stay.
unfoldable pub sync_rounds : ℕ → Replica → Checkpoint → ℕ
sync_rounds zero r c = cond (nothing_moves r c) 0 (length r.log)
sync_rounds (suc n) r c = 0

-- what is promised of the rounds that a sync counted
pub record OnePass (r : Replica) (c : Checkpoint) (number rounds : ℕ) : Type 0 where
  pub counted : rounds ≡ sync_rounds number r c
  pub at_most : rounds ≤ length r.log

-- ---- laws

pub sync_rounds-few : (number : ℕ) (r : Replica) (c : Checkpoint) → sync_rounds number r c ≤ length r.log
unfolding sync_rounds
sync_rounds-few zero r c = go (nothing_moves r c)
  where
    go : (b : Bool) → cond b 0 (length r.log) ≤ length r.log
    go true = omega arith
    go false = omega arith
sync_rounds-few (suc n) r c = omega arith

pub sync_rounds-none : (r : Replica) (c : Checkpoint) → all_taken c.taken ≡ 0 → sync_rounds 0 r c ≡ 0
unfolding sync_rounds
sync_rounds-none r c h = rw (eq-eqb (all_taken c.taken) 0 h)

pub sync_rounds_all : (r : Replica) (c : Checkpoint) → (all_taken c.taken ≢ 0) → length r.log ≤ all_taken c.taken
    → sync_rounds 0 r c ≡ 0
unfolding sync_rounds
sync_rounds_all r c h a = rw (ne_eqb (all_taken c.taken) 0 h, le-leb (length r.log) (all_taken c.taken) a)

pub sync_rounds-some : (r : Replica) (c : Checkpoint) → (all_taken c.taken ≢ 0) → all_taken c.taken < length r.log
    → sync_rounds 0 r c ≡ length r.log
unfolding sync_rounds
sync_rounds-some r c h a = rw (ne_eqb (all_taken c.taken) 0 h, lt-leb (length r.log) (all_taken c.taken) a)

pub one_pass_by : (r : Replica) (c : Checkpoint) (number rounds : ℕ) → rounds ≡ sync_rounds number r c → OnePass r c number rounds
one_pass_by r c number rounds h = record { counted = h; at_most = (let f = sync_rounds-few number r c in omega arith) }

-- one take less on a port
sum_below_less : (f g : ℕ → ℕ) (q n : ℕ) → q < n → f q ≡ suc (g q) → ((i : ℕ) → (i ≢ q) → f i ≡ g i) → sum_below f n ≡ suc (sum_below g n)
sum_below_less f g q zero l h o = absurd (omega arith)
sum_below_less f g q (suc n) l h o =
    by_eq n q
    (λ e. let a = sum_same f g n (λ i k. o i (λ z. omega arith)) in let b : f n ≡ suc (g n) = rw e h in omega arith)
    (λ d. let a = sum_below_less f g q n (omega arith) h o in let b = o n d in omega arith)

pub all_taken_less : (t : List ℕ) (p : ℕ) → p < ports → 0 < taken_on t p → all_taken t ≡ suc (all_taken (one_less t p))
all_taken_less t p l g =
    sum_below_less (taken_on t) (taken_on (one_less t p)) p ports l (let a = taken_less t p in omega arith)
    (λ i d. let a = taken-other t p i d in omega arith)

-- where nothing was taken, none was on any port
sum_below-none : (f : ℕ → ℕ) (n : ℕ) → sum_below f n ≡ 0 → (i : ℕ) → i < n → f i ≡ 0
sum_below-none f zero h i l = absurd (omega arith)
sum_below-none f (suc n) h i l = by_eq i n (λ e. rw e (omega arith)) (λ d. sum_below-none f n (omega arith) i (omega arith))

pub all_taken-none : (t : List ℕ) → all_taken t ≡ 0 → (p : ℕ) → p < ports → taken_on t p ≡ 0
all_taken-none t h p l = sum_below-none (taken_on t) ports h p l
