-- What an accepted table gives: ports and channels correspond, a process sends on its own channels only, a step leaves the program counter
-- within the program, boards are those of the table.
use mathlib.Core.Logic.{◌≢◌}
use mathlib.Core.Path.{◌≡◌, refl, ap, sym, subst}
use mathlib.Core.Bool.{Bool, true, false, not, cond, ◌&&◌}
use mathlib.Core.List.{List, [], ◌∷◌}
use Prim.Native.Nat.{ℕ, zero, suc, ◌+◌, ◌≤◌, ◌<◌}
use native.Mathlib.Omega.{arith}
use native.Mathlib.Nat.{le_of_suc-le-suc, not-suc-le-zero, le_refl, le-suc}
use lib.Dec.{eqb, ltb, leb}
use lib.ListN.{length, get_or, get_or-eq_default}
use borrow.Author.Tests.{eqb-true, eqb-false, eq-eqb, ne_eqb, leb-true, ltb-true, not-true}
use Rattle.facts.specs.Tests.{and_left, and_right, by_lt, all_below_lem, all_of}
use Rattle.facts.specs.Indexing.{all_of_lem}
use Rattle.backup.specs.Limits.{ports}
use Rattle.rules.specs.Table.{environment, Channel, Instruction, SET, ADD, TAKE, FIRST, SEND, JUMP, NONE, Placement, Table, channel_at, nowhere, placement_at, code_of, limit_of, read_from, inputs, position, port_of, channel_on}
use Rattle.rules.specs.Sizes.{limit_least, limit_most}
use Rattle.rules.specs.Machine.{Mail, Machine, Act, internal, took, sent, Outcome, halted, no_mail, moved, Pull, nothing, found, pull, bit, register, take1, first1, execute}
use Rattle.rules.specs.Judge.{inputs_ok, boards_ok, sends, instruction_ok, instructions_ok, limit_ok, limits_ok, Accepted}
use Rattle.rules.proofs.Steps.{Steps, executes}

-- ---- ports and channels

-- strictly ascending, from n on
data Rising : ℕ → List ℕ → Type 0 where
  level : {n : ℕ} → Rising n []
  rising : {n x : ℕ} {l : List ℕ} → n ≤ x → Rising (suc x) l → Rising n (x ∷ l)

lower : {n k : ℕ} {l : List ℕ} → k ≤ n → Rising n l → Rising k l
lower h level = level
lower {k = k} h (rising {x = x} g r) = let a : k ≤ x = omega arith in rising a r

read_rising : (j : ℕ) (cs : List Channel) (p : ℕ) → Rising j (read_from j cs p)
read_rising j [] p = level
read_rising j (c ∷ cs) p = go (eqb c.reader p) (read_rising (suc j) cs p)
  where
    go : (b : Bool) → Rising (suc j) (read_from (suc j) cs p) → Rising j (cond b (j ∷ read_from (suc j) cs p) (read_from (suc j) cs p))
    go true r = rising {x = j} (le_refl j) r
    go false r = lower (le-suc j) r

at_least : {n : ℕ} {l : List ℕ} → Rising n l → (i : ℕ) → i < length l → n ≤ get_or l i 0
at_least level i h = absurd (not-suc-le-zero h)
at_least (rising g r) zero h = g
at_least (rising g r) (suc i) h = let a = at_least r i (le_of_suc-le-suc h) in omega arith

position_at : {n : ℕ} {l : List ℕ} → Rising n l → (i : ℕ) → i < length l → position (get_or l i 0) l ≡ i
position_at level i h = absurd (not-suc-le-zero h)
position_at (rising {x = x} g r) zero h = rw (eq-eqb x x refl)
position_at (rising {x = x} {l = l} g r) (suc i) h =
    let a = at_least r i (le_of_suc-le-suc h) in
    rw (ne_eqb (get_or l i 0) x (λ e. omega arith)) (ap suc (position_at r i (le_of_suc-le-suc h)))

-- the port of a channel leads back to the channel
pub port_of_channel : (t : Table) (p i : ℕ) → i < length (inputs t p) → port_of t p (channel_on t p i) ≡ i
unfolding inputs
port_of_channel t p i h = position_at (read_rising 0 t.channels p) i h

-- a number stands in a list
pub record Stands (k : ℕ) (l : List ℕ) : Type 0 where
  pub below : position k l < length l
  pub back : get_or l (position k l) 0 ≡ k

stands-first : (k : ℕ) (l : List ℕ) → Stands k (k ∷ l)
stands-first k l = record { below = rw (eq-eqb k k refl) (omega arith); back = rw (eq-eqb k k refl) }

stands_later : {k x : ℕ} {l : List ℕ} → x ≢ k → Stands k l → Stands k (x ∷ l)
stands_later {k} {x} n h =
    let e = ne_eqb k x (λ f. n (sym f)) in
    let a = h.below in
    record { below = rw e (omega arith); back = rw e h.back }

read_stands : (j : ℕ) (cs : List Channel) (p i : ℕ) (d : Channel) → i < length cs → (get_or cs i d).reader ≡ p → Stands (j + i) (read_from j cs p)
read_stands j [] p i d h e = absurd (not-suc-le-zero h)
read_stands j (c ∷ cs) p zero d h e =
    rw (eq-eqb c.reader p e) (subst (λ (k : ℕ). Stands k (j ∷ read_from (suc j) cs p)) (omega arith) (stands-first j (read_from (suc j) cs p)))
read_stands j (c ∷ cs) p (suc i) d h e =
    go (eqb c.reader p) (subst (λ (k : ℕ). Stands k (read_from (suc j) cs p)) (omega arith) (read_stands (suc j) cs p i d (le_of_suc-le-suc h) e))
  where
    go : (b : Bool) → Stands (j + suc i) (read_from (suc j) cs p) → Stands (j + suc i) (cond b (j ∷ read_from (suc j) cs p) (read_from (suc j) cs p))
    go true s = stands_later (λ f. omega arith) s
    go false s = s

-- a channel that the table doesn't have joins the environment to itself
pub reader_past : (t : Table) (k : ℕ) → length t.channels ≤ k → (channel_at t k).reader ≡ environment
reader_past t k h = ap (λ (c : Channel). c.reader) (get_or-eq_default t.channels (record { sender = environment; reader = environment }) h)

pub sender_past : (t : Table) (k : ℕ) → length t.channels ≤ k → (channel_at t k).sender ≡ environment
sender_past t k h = ap (λ (c : Channel). c.sender) (get_or-eq_default t.channels (record { sender = environment; reader = environment }) h)

module _ (t : Table) (ok : Accepted t) where
  -- a channel that a process reads is one of its inputs
  pub input : (k p : ℕ) → p < length t.processes → (channel_at t k).reader ≡ p → Stands k (inputs t p)
  unfolding inputs
  input k p h e =
      by_lt k (length t.channels)
      (λ l. subst (λ (i : ℕ). Stands i (read_from 0 t.channels p)) (omega arith)
      (read_stands 0 t.channels p k (record { sender = environment; reader = environment }) l e))
      (λ g. absurd (let a = reader_past t k g in let b = ok.processes_high in omega arith))

  pub few-ports : (p : ℕ) → p < length t.processes → length (inputs t p) ≤ ports
  unfolding inputs_ok
  few-ports p h = leb-true (length (inputs t p)) ports (all_below_lem (λ q. leb (length (inputs t q)) ports) (length t.processes) ok.few-inputs p h)

  -- ---- instructions

  pub code_ok : (p : ℕ) → p < length t.processes → (j : ℕ) → j < length (code_of t p)
      → instruction_ok t p (length (code_of t p)) (get_or (code_of t p) j (SET 0 0)) ≡ true
  unfolding instructions_ok
  code_ok p h j l =
      all_of_lem (instruction_ok t p (length (code_of t p))) (code_of t p)
      (all_below_lem (λ q. all_of (instruction_ok t q (length (code_of t q))) (code_of t q)) (length t.processes) ok.instructions p h) j (SET 0 0) l

  -- ---- boards

  pub board_ok : (p : ℕ) → p < length t.processes
      → (ltb (placement_at t p).primary t.boards && (ltb (placement_at t p).standby t.boards && not (eqb (placement_at t p).primary (placement_at t p).standby))) ≡ true
  unfolding boards_ok
  board_ok p h =
      all_of_lem (λ (x : Placement). ltb x.primary t.boards && (ltb x.standby t.boards && not (eqb x.primary x.standby))) t.processes ok.on_boards p
      nowhere h

  pub primary_ok : (p : ℕ) → p < length t.processes → (placement_at t p).primary < t.boards
  primary_ok p h = ltb-true (placement_at t p).primary t.boards (and_left (ltb (placement_at t p).primary t.boards) _ (board_ok p h))

  pub standby_ok : (p : ℕ) → p < length t.processes → (placement_at t p).standby < t.boards
  standby_ok p h =
      ltb-true (placement_at t p).standby t.boards
      (and_left (ltb (placement_at t p).standby t.boards) _ (and_right (ltb (placement_at t p).primary t.boards) _ (board_ok p h)))

  pub apart_ok : (p : ℕ) → p < length t.processes → (placement_at t p).standby ≢ (placement_at t p).primary
  apart_ok p h e =
      eqb-false (placement_at t p).primary (placement_at t p).standby
      (not-true _ (and_right (ltb (placement_at t p).standby t.boards) _ (and_right (ltb (placement_at t p).primary t.boards) _ (board_ok p h))))
      (sym e)

  -- ---- limits

  -- "a limit byte, 1 to 16"; a process that the table doesn't have has limit 0
  pub limit_high : (p : ℕ) → limit_of t p ≤ limit_most
  unfolding limits_ok
  limit_high p =
      by_lt p (length t.processes)
      (λ h. leb-true (limit_of t p) limit_most
      (and_right (leb limit_least (limit_of t p)) _ (all_of_lem (λ (x : Placement). limit_ok x.limit) t.processes ok.limits p nowhere h)))
      (λ h. subst (λ (x : Placement). x.limit ≤ limit_most) (sym (get_or-eq_default t.processes nowhere h)) (omega arith))

  pub limit_low : (p : ℕ) → p < length t.processes → limit_least ≤ limit_of t p
  unfolding limits_ok
  limit_low p h =
      leb-true limit_least (limit_of t p)
      (and_left _ (leb (limit_of t p) limit_most) (all_of_lem (λ (x : Placement). limit_ok x.limit) t.processes ok.limits p nowhere h))

-- ---- what an instruction of an accepted table does

-- the program counter stays within the n instructions, and a word goes out on a channel of p's own
abbrev Proper : Table → ℕ → ℕ → Outcome → Type 0
Proper t p n halted = Unit {0}
Proper t p n no_mail = Unit {0}
Proper t p n (moved m internal) = m.pc ≤ n
Proper t p n (moved m (took x)) = m.pc ≤ n
Proper t p n (moved m (sent x)) = (m.pc ≤ n) × ((channel_at t x.channel).sender ≡ p)

execute_proper : (t : Table) (p n : ℕ) (i : Instruction) (m : Machine) → m.pc < n → instruction_ok t p n i ≡ true → Proper t p n (execute i m)
unfolding execute instruction_ok
execute_proper t p n (SET a v) m h ok = h
execute_proper t p n (ADD a b) m h ok = h
execute_proper t p n (TAKE a c) m h ok = go (pull (eqb c) m.mailbox)
  where
    go : (q : Pull) → Proper t p n (take1 a m q)
    go nothing = tt
    go (found x rest) = h
execute_proper t p n (FIRST a c) m h ok = go (pull (bit c) m.mailbox)
  where
    go : (q : Pull) → Proper t p n (first1 a m q)
    go nothing = tt
    go (found x rest) = h
execute_proper t p n (SEND a k) m h ok =
    (h, eqb-true (channel_at t k).sender p (and_right (ltb k (length t.channels)) _ (and_right (ltb a 4) (sends t p k) ok)))
execute_proper t p n (JUMP a target) m h ok = go (eqb (register m a) 0)
  where
    go : (b : Bool) → cond b (suc m.pc) target ≤ n
    go true = h
    go false = leb-true target n (and_right (ltb a 4) (leb target n) ok)
execute_proper t p n NONE m h ok = tt

module _ (t : Table) (ok : Accepted t) (p : ℕ) (h : p < length t.processes) where
  step_proper : {m m1 : Machine} {k : Act} → Steps (code_of t p) m k m1 → Proper t p (length (code_of t p)) (moved m1 k)
  step_proper {m} e =
      let x = executes e in
      subst (Proper t p (length (code_of t p))) x.is (execute_proper t p (length (code_of t p)) (get_or (code_of t p) m.pc (SET 0 0)) m x.within (code_ok t ok p h m.pc x.within))

  pub step_low : {m m1 : Machine} {k : Act} → Steps (code_of t p) m k m1 → m1.pc ≤ length (code_of t p)
  step_low {k = k} e = go k e
    where
      go : {m m1 : Machine} (j : Act) → Steps (code_of t p) m j m1 → m1.pc ≤ length (code_of t p)
      go internal e = step_proper e
      go (took x) e = step_proper e
      go (sent x) e = (step_proper e).0

  pub step_own : {m m1 : Machine} {x : Mail} → Steps (code_of t p) m (sent x) m1 → (channel_at t x.channel).sender ≡ p
  step_own e = (step_proper e).1
