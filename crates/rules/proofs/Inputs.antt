-- The channels that a process reads are its inputs: each stands there once, and no other does.
use mathlib.Core.Logic.{◌≢◌}
use mathlib.Core.Path.{◌≡◌, refl, ap, sym, ◌∙◌, subst}
use mathlib.Core.Bool.{Bool, true, false, cond}
use mathlib.Core.List.{List, [], ◌∷◌, map}
use Prim.Native.Nat.{ℕ, zero, suc, ◌+◌, ◌≤◌, ◌<◌}
use native.Mathlib.Omega.{arith}
use native.Mathlib.Nat.{le_of_suc-le-suc, not-suc-le-zero}
use lib.Dec.{eqb}
use lib.ListN.{length, get_or}
use borrow.Author.Tests.{eqb-true}
use Rattle.facts.specs.Tests.{by_eq}
use Rattle.facts.specs.Counts.{occurs, same_yes, same_no, cond_more, occurs_at}
use Rattle.backup.specs.Replica.{Message}
use Rattle.rules.specs.Table.{environment, Channel, Table, channel_at, read_from, inputs, channel_on}
use Rattle.rules.specs.Judge.{Accepted}
use Rattle.rules.specs.Cabinet.{unread_on}
use Rattle.rules.proofs.Tables.{input}
use Rattle.rules.proofs.Good.{mail_of, PortsBelow, no_ports, one_port}

-- ---- once

read_later : (j : ℕ) (cs : List Channel) (p k : ℕ) → k < j → occurs k (read_from j cs p) ≡ 0
read_later j [] p k h = refl
read_later j (c ∷ cs) p k h = go (eqb c.reader p) (read_later (suc j) cs p k (omega arith))
  where
    go : (b : Bool) → occurs k (read_from (suc j) cs p) ≡ 0 → occurs k (cond b (j ∷ read_from (suc j) cs p) (read_from (suc j) cs p)) ≡ 0
    go true r = let a = same_no k j (λ e. absurd (omega arith)) in omega arith
    go false r = r

read_once : (j : ℕ) (cs : List Channel) (p k : ℕ) → occurs k (read_from j cs p) ≤ 1
read_once j [] p k = omega arith
read_once j (c ∷ cs) p k = go (eqb c.reader p) (read_once (suc j) cs p k)
  where
    go : (b : Bool) → occurs k (read_from (suc j) cs p) ≤ 1 → occurs k (cond b (j ∷ read_from (suc j) cs p) (read_from (suc j) cs p)) ≤ 1
    go true r =
        by_eq k j
        (λ e. let a = same_yes k j e in let z = read_later (suc j) cs p k (omega arith) in omega arith)
        (λ n. let a = same_no k j n in omega arith)
    go false r = r

pub inputs_once : (t : Table) (p k : ℕ) → occurs k (inputs t p) ≤ 1
unfolding inputs
inputs_once t p k = read_once 0 t.channels p k

-- ---- the reader of an input

record ReadAt (j : ℕ) (cs : List Channel) (p k : ℕ) (d : Channel) : Type 0 where
  index : ℕ
  is : k ≡ j + index
  reads : (get_or cs index d).reader ≡ p

read_further : {j : ℕ} {cs : List Channel} {p k : ℕ} {d : Channel} (c : Channel) → ReadAt (suc j) cs p k d → ReadAt j (c ∷ cs) p k d
read_further c r = let e = r.is in record { index = suc r.index; is = omega arith; reads = r.reads }

read_at : (j : ℕ) (cs : List Channel) (p i : ℕ) (d : Channel) → i < length (read_from j cs p) → ReadAt j cs p (get_or (read_from j cs p) i 0) d
read_at j [] p i d h = absurd (not-suc-le-zero h)
read_at j (c ∷ cs) p i d h = go (eqb c.reader p) refl i h (λ n. read_at (suc j) cs p n d)
  where
    go : (b : Bool) → eqb c.reader p ≡ b → (n : ℕ) → n < length (cond b (j ∷ read_from (suc j) cs p) (read_from (suc j) cs p))
        → ((m : ℕ) → m < length (read_from (suc j) cs p) → ReadAt (suc j) cs p (get_or (read_from (suc j) cs p) m 0) d)
        → ReadAt j (c ∷ cs) p (get_or (cond b (j ∷ read_from (suc j) cs p) (read_from (suc j) cs p)) n 0) d
    go true e zero l ih = record { index = 0; is = omega arith; reads = eqb-true c.reader p e }
    go true e (suc n) l ih = read_further c (ih n (le_of_suc-le-suc l))
    go false e n l ih = read_further c (ih n l)

pub input_reader : (t : Table) (p i : ℕ) → i < length (inputs t p) → (channel_at t (channel_on t p i)).reader ≡ p
unfolding inputs
input_reader t p i h =
    let r = read_at 0 t.channels p i (record { sender = environment; reader = environment }) h in
    let e = r.is in
    let k : get_or (read_from 0 t.channels p) i 0 ≡ r.index = omega arith in
    subst (λ (n : ℕ). (channel_at t n).reader ≡ p) (sym k) r.reads

pub no_input : (t : Table) → Accepted t → (p : ℕ) → p < length t.processes → (k : ℕ) → occurs k (inputs t p) ≡ 0 → (channel_at t k).reader ≢ p
no_input t ok p hp k z e =
    let s = input t ok k p hp e in
    let a : 1 ≤ occurs k (inputs t p) = subst (λ (n : ℕ). 1 ≤ occurs n (inputs t p)) s.back (occurs_at (inputs t p) _ 0 s.below) in
    omega arith

-- the words of a log are on channels that its process reads
pub log_own : (t : Table) (p : ℕ) {log : List Message} → PortsBelow (length (inputs t p)) log → (k : ℕ) → (channel_at t k).reader ≢ p
    → unread_on k (map (mail_of t p) log) ≡ 0
log_own t p no_ports k n = refl
log_own t p (one_port {m = m} {log = log} h r) k n =
    let a = same_no k (channel_on t p m.port) (λ e. n (ap (λ (j : ℕ). (channel_at t j).reader) e ∙ input_reader t p m.port h)) in
    let b = cond_more (eqb k (channel_on t p m.port)) (unread_on k (map (mail_of t p) log)) in
    let d = log_own t p r k n in
    omega arith
