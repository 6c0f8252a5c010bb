-- One local step of one machine: an arrival disturbs no step that was possible before it, a step takes the oldest word on a channel
-- that it wants, and a machine does one thing.
use mathlib.Core.Path.{◌≡◌, refl, ap, sym, subst}
use mathlib.Core.Bool.{Bool, true, false, cond}
use mathlib.Core.List.{List, [], ◌∷◌, ◌++◌}
use Prim.Native.Nat.{ℕ, suc, ◌+◌, ◌<◌}
use native.Mathlib.Omega.{arith}
use lib.Dec.{eqb, ltb}
use lib.ListN.{length, get_or}
use borrow.Author.Tests.{ltb-true, eqb-true, eqb-false}
use Rattle.facts.specs.Tests.{no_way}
use Rattle.facts.specs.Counts.{total, total_ones}
use Rattle.rules.specs.Table.{Instruction, SET, ADD, TAKE, FIRST, SEND, JUMP, NONE}
use Rattle.rules.specs.Machine.{Mail, Machine, Act, internal, took, sent, Outcome, halted, no_mail, moved, Pull, nothing, found, behind, pull, bit, take1, first1, execute, local_step, delivered}

-- one local step, as a record: an implicit argument is then read off its type
pub record Steps (code : List Instruction) (m : Machine) (k : Act) (m1 : Machine) : Type 0 where
  pub is : local_step code m ≡ moved m1 k

-- a machine does one thing
pub same-machine : {code : List Instruction} {m m1 m2 : Machine} {k j : Act} → Steps code m k m1 → Steps code m j m2 → m1 ≡ m2
same-machine e f = let a = e.is in let b = f.is in cc

pub same-act : {code : List Instruction} {m m1 m2 : Machine} {k j : Act} → Steps code m k m1 → Steps code m j m2 → k ≡ j
same-act e f = let a = e.is in let b = f.is in cc

-- the instruction that a step executes
pub record Executes (code : List Instruction) (m : Machine) (o : Outcome) : Type 0 where
  pub within : m.pc < length code
  pub is : execute (get_or code m.pc (SET 0 0)) m ≡ o

pub executes : {code : List Instruction} {m m1 : Machine} {k : Act} → Steps code m k m1 → Executes code m (moved m1 k)
unfolding local_step
executes {code} {m} {m1} {k} e = go (ltb m.pc (length code)) refl e.is
  where
    go : (b : Bool) → ltb m.pc (length code) ≡ b → cond b (execute (get_or code m.pc (SET 0 0)) m) halted ≡ moved m1 k → Executes code m (moved m1 k)
    go true h g = record { within = ltb-true m.pc (length code) h; is = g }
    go false h g = absurd (no_way (cc))

-- ---- an arrival

abbrev on_machine : (Machine → Machine) → Outcome → Outcome
on_machine f halted = halted
on_machine f no_mail = no_mail
on_machine f (moved m k) = moved (f m) k

-- a search that found a word finds the same one after an arrival
abbrev Later : Mail → Pull → Pull → Type 0
Later x before after = (y : Mail) (ys : List Mail) → before ≡ found y ys → after ≡ found y (ys ++ (x ∷ []))

pull_later : (wanted : ℕ → Bool) (l : List Mail) (x : Mail) → Later x (pull wanted l) (pull wanted (l ++ (x ∷ [])))
pull_later wanted [] x y ys e = cc
pull_later wanted (z ∷ l) x y ys e = go (wanted z.channel) (pull wanted l) (pull wanted (l ++ (x ∷ []))) (pull_later wanted l x) y ys e
  where
    go : (b : Bool) (p q : Pull) → Later x p q → Later x (cond b (found z l) (behind z p)) (cond b (found z (l ++ (x ∷ []))) (behind z q))
    go true p q ih y ys e = cc
    go false nothing q ih y ys e = cc
    go false (found v vs) q ih y ys e = rw (ih v vs refl) (cc)

take1_later : (a : ℕ) (m m1 : Machine) (k : Act) (x : Mail) (p q : Pull) → Later x p q → take1 a m p ≡ moved m1 k
    → take1 a (delivered x m) q ≡ moved (delivered x m1) k
unfolding delivered
take1_later a m m1 k x nothing q h e = cc
take1_later a m m1 k x (found y ys) q h e = rw (h y ys refl) (ap (on_machine (delivered x)) e)

first1_later : (a : ℕ) (m m1 : Machine) (k : Act) (x : Mail) (p q : Pull) → Later x p q → first1 a m p ≡ moved m1 k
    → first1 a (delivered x m) q ≡ moved (delivered x m1) k
unfolding delivered
first1_later a m m1 k x nothing q h e = cc
first1_later a m m1 k x (found y ys) q h e = rw (h y ys refl) (ap (on_machine (delivered x)) e)

execute_later : (i : Instruction) (m m1 : Machine) (k : Act) (x : Mail) → execute i m ≡ moved m1 k → execute i (delivered x m) ≡ moved (delivered x m1) k
unfolding execute delivered
execute_later (SET a v) m m1 k x e = ap (on_machine (delivered x)) e
execute_later (ADD a b) m m1 k x e = ap (on_machine (delivered x)) e
execute_later (TAKE a c) m m1 k x e = take1_later a m m1 k x (pull (eqb c) m.mailbox) _ (pull_later (eqb c) m.mailbox x) e
execute_later (FIRST a c) m m1 k x e = first1_later a m m1 k x (pull (bit c) m.mailbox) _ (pull_later (bit c) m.mailbox x) e
execute_later (SEND a c) m m1 k x e = ap (on_machine (delivered x)) e
execute_later (JUMP a n) m m1 k x e = ap (on_machine (delivered x)) e
execute_later NONE m m1 k x e = absurd (no_way (cc))

pub step_later : {code : List Instruction} {m m1 : Machine} {k : Act} (x : Mail) → Steps code m k m1 → Steps code (delivered x m) k (delivered x m1)
unfolding local_step delivered
step_later {code} {m} {m1} {k} x e = record { is = go (ltb m.pc (length code)) (get_or code m.pc (SET 0 0)) e.is }
  where
    go : (b : Bool) (i : Instruction) → cond b (execute i m) halted ≡ moved m1 k → cond b (execute i (delivered x m)) halted ≡ moved (delivered x m1) k
    go true i h = execute_later i m m1 k x h
    go false i h = cc

-- ---- what a step does to the mailbox

-- x is the oldest word of l on a channel that passes some test, and rest is l without it
pub record Pulled (x : Mail) (l rest : List Mail) : Type 0 where
  pub wanted : ℕ → Bool
  pub is : pull wanted l ≡ found x rest

-- the mailbox afterwards, by what the step did
abbrev pub Left : Machine → Act → Machine → Type 0
Left m internal m1 = m1.mailbox ≡ m.mailbox
Left m (took x) m1 = Pulled x m.mailbox m1.mailbox
Left m (sent x) m1 = m1.mailbox ≡ m.mailbox

abbrev LeftBy : Machine → Outcome → Type 0
LeftBy m halted = Unit {0}
LeftBy m no_mail = Unit {0}
LeftBy m (moved m1 k) = Left m k m1

take1_left : (a : ℕ) (m : Machine) (wanted : ℕ → Bool) (p : Pull) → pull wanted m.mailbox ≡ p → LeftBy m (take1 a m p)
take1_left a m wanted nothing h = tt
take1_left a m wanted (found y ys) h = record { wanted = wanted; is = h }

first1_left : (a : ℕ) (m : Machine) (wanted : ℕ → Bool) (p : Pull) → pull wanted m.mailbox ≡ p → LeftBy m (first1 a m p)
first1_left a m wanted nothing h = tt
first1_left a m wanted (found y ys) h = record { wanted = wanted; is = h }

execute_left : (i : Instruction) (m : Machine) → LeftBy m (execute i m)
unfolding execute
execute_left (SET a v) m = refl
execute_left (ADD a b) m = refl
execute_left (TAKE a c) m = take1_left a m (eqb c) (pull (eqb c) m.mailbox) refl
execute_left (FIRST a c) m = first1_left a m (bit c) (pull (bit c) m.mailbox) refl
execute_left (SEND a c) m = refl
execute_left (JUMP a n) m = refl
execute_left NONE m = tt

pub step_left : {code : List Instruction} {m m1 : Machine} {k : Act} → Steps code m k m1 → Left m k m1
step_left {code} {m} e = subst (LeftBy m) (executes e).is (execute_left (get_or code m.pc (SET 0 0)) m)

-- ---- taking the oldest word on a channel

-- without the oldest word of channel k
abbrev pub drop_oldest : ℕ → List Mail → List Mail
drop_oldest k [] = []
drop_oldest k (x ∷ l) = cond (eqb k x.channel) l (x ∷ drop_oldest k l)

-- the word found is on a channel that was wanted
passes : (wanted : ℕ → Bool) (l : List Mail) (x : Mail) (rest : List Mail) → pull wanted l ≡ found x rest → wanted x.channel ≡ true
passes wanted [] x rest e = absurd (no_way (cc))
passes wanted (z ∷ l) x rest e = go (wanted z.channel) (pull wanted l) refl (passes wanted l) e
  where
    go : (b : Bool) (p : Pull) → wanted z.channel ≡ b → ((v : Mail) (vs : List Mail) → p ≡ found v vs → wanted v.channel ≡ true)
        → cond b (found z l) (behind z p) ≡ found x rest → wanted x.channel ≡ true
    go true p h ih g = let same : z ≡ x = cc in subst (λ (v : Mail). wanted v.channel ≡ true) same h
    go false nothing h ih g = absurd (no_way (cc))
    go false (found v vs) h ih g = let same : v ≡ x = cc in ih x vs (ap (λ (u : Mail). found u vs) same)

pull-oldest : (wanted : ℕ → Bool) (l : List Mail) (x : Mail) (rest : List Mail) → pull wanted l ≡ found x rest → drop_oldest x.channel l ≡ rest
pull-oldest wanted [] x rest e = cc
pull-oldest wanted (z ∷ l) x rest e =
    go (wanted z.channel) (eqb x.channel z.channel) (pull wanted l) refl refl (passes wanted (z ∷ l) x rest e) (pull-oldest wanted l) e
  where
    go : (b d : Bool) (p : Pull) → wanted z.channel ≡ b → eqb x.channel z.channel ≡ d → wanted x.channel ≡ true
        → ((v : Mail) (vs : List Mail) → p ≡ found v vs → drop_oldest v.channel l ≡ vs)
        → cond b (found z l) (behind z p) ≡ found x rest → cond d l (z ∷ drop_oldest x.channel l) ≡ rest
    go true true p hb hd hx ih g = cc
    go true false p hb hd hx ih g =
        let same : z ≡ x = cc in absurd (eqb-false x.channel z.channel hd (ap (λ (v : Mail). v.channel) (sym same)))
    go false true p hb hd hx ih g =
        absurd (no_way (let same : x.channel ≡ z.channel = eqb-true x.channel z.channel hd in let h : wanted x.channel ≡ false = rw same hb in cc))
    go false false nothing hb hd hx ih g = cc
    go false false (found v vs) hb hd hx ih g =
        let same : v ≡ x = cc in rw (ih x vs (ap (λ (u : Mail). found u vs) same)) (cc)

pub pulled_oldest : {x : Mail} {l rest : List Mail} → Pulled x l rest → rest ≡ drop_oldest x.channel l
pulled_oldest {x} {l} {rest} h = sym (pull-oldest h.wanted l x rest h.is)

-- one word fewer, whatever a word weighs
module _ (w : Mail → ℕ) where
  pull-total : (wanted : ℕ → Bool) (l : List Mail) (x : Mail) (rest : List Mail) → pull wanted l ≡ found x rest → total w l ≡ total w rest + w x
  pull-total wanted [] x rest e = absurd (no_way (cc))
  pull-total wanted (z ∷ l) x rest e = go (wanted z.channel) (pull wanted l) (pull-total wanted l) e
    where
      go : (b : Bool) (p : Pull) → ((v : Mail) (vs : List Mail) → p ≡ found v vs → total w l ≡ total w vs + w v) → cond b (found z l) (behind z p) ≡ found x rest
          → w z + total w l ≡ total w rest + w x
      go true p ih g = let a : w z ≡ w x = cc in let b : total w l ≡ total w rest = cc in omega arith
      go false nothing ih g = absurd (no_way (cc))
      go false (found v vs) ih g =
          let a : w v ≡ w x = cc in let b : total w (z ∷ vs) ≡ total w rest = cc in let h = ih v vs refl in omega arith

  pub pulled_total : {x : Mail} {l rest : List Mail} → Pulled x l rest → total w l ≡ total w rest + w x
  pulled_total {x} {l} {rest} h = pull-total h.wanted l x rest h.is

pub pulled_length : {x : Mail} {l rest : List Mail} → Pulled x l rest → length l ≡ suc (length rest)
pulled_length {l = l} {rest = rest} h =
    let a = pulled_total (λ _. 1) h in let b = total_ones l in let c = total_ones rest in omega arith
