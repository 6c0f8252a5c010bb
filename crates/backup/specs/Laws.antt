-- Laws of the backup's value, each stated once, for whoever stands on it: takes of a port, messages of one port, and how many a log has.
-- What a drop leaves of a log is in proofs/Drops.
use Rattle.std.specs.Prelude.{◌≡◌, ℕ, zero, suc, ◌+◌, ◌-◌, ◌<◌, ◌≤◌, Bool, true, false, cond, ◌≢◌, List, [], ◌∷◌, ◌++◌, length, ◌==◌, nat_lt, refl}
use Rattle.std.proofs.Common.{sym, arith, get_or-set_other, eq-eqb, ne_eqb, ltb-true}
use Rattle.facts.specs.Tests.{by_eq, and_left, and_right}
use Rattle.facts.specs.Sums.{get_or_lowered, sum_below, sum_add, sum_same}
use Rattle.facts.specs.Counts.{same, same_yes, same_no}
use Rattle.backup.specs.Limits.{ports}
use Rattle.backup.specs.Replica.{Message, on_ports}
use Rattle.backup.specs.Replica.{saved_on, taken_on, one_less}

-- ---- takes of a port, after one of them is used up

pub taken_less : (t : List ℕ) (q : ℕ) → taken_on (one_less t q) q ≡ taken_on t q - 1
taken_less t q = get_or_lowered t q (taken_on t q - 1) (omega arith)

pub taken-other : (t : List ℕ) (q p : ℕ) → p ≢ q → taken_on (one_less t q) p ≡ taken_on t p
taken-other t q p n = get_or-set_other t q p (taken_on t q - 1) 0 n

-- a case split on whether takes of a port are left
pub by_taken : {P : Type 0} (t : List ℕ) (p : ℕ) → (taken_on t p ≡ 0 → P) → (1 ≤ taken_on t p → P) → P
by_taken t p f g = by_eq (taken_on t p) 0 f (λ n. g (omega arith))

-- ---- messages of one port

-- the messages of a log that came in on a port
abbrev pub on_port : ℕ → List Message → List Message
on_port p [] = []
on_port p (m ∷ l) = cond (p == m.port) (m ∷ on_port p l) (on_port p l)

pub on_same : (p : ℕ) (m : Message) (l : List Message) → p ≡ m.port → on_port p (m ∷ l) ≡ m ∷ on_port p l
on_same p m l h = rw (eq-eqb p m.port h)

pub on_other : (p : ℕ) (m : Message) (l : List Message) → p ≢ m.port → on_port p (m ∷ l) ≡ on_port p l
on_other p m l h = rw (ne_eqb p m.port h)

pub saved_cons : (p : ℕ) (m : Message) (l : List Message) → saved_on p (m ∷ l) ≡ same p m.port + saved_on p l
saved_cons p m l = go (p == m.port)
  where
    go : (b : Bool) → cond b (suc (saved_on p l)) (saved_on p l) ≡ cond b 1 0 + saved_on p l
    go true = omega arith
    go false = omega arith

pub saved_append : (p : ℕ) (l r : List Message) → saved_on p (l ++ r) ≡ saved_on p l + saved_on p r
saved_append p [] r = omega arith
saved_append p (m ∷ l) r =
    let a = saved_cons p m l in let b = saved_cons p m (l ++ r) in let h = saved_append p l r in omega arith

pub saved-length : (p : ℕ) (l : List Message) → length (on_port p l) ≡ saved_on p l
saved-length p [] = refl
saved-length p (m ∷ l) =
    by_eq p m.port
    (λ e. rw (on_same p m l e) (let a = saved_cons p m l in let b = same_yes p m.port e in let h = saved-length p l in omega arith))
    (λ n. rw (on_other p m l n) (let a = saved_cons p m l in let b = same_no p m.port n in let h = saved-length p l in omega arith))

-- ---- ports and lengths

pub ports_cons : (m : Message) (l : List Message) → on_ports (m ∷ l) ≡ true → (m.port < ports) × (on_ports l ≡ true)
ports_cons m l h = (ltb-true m.port ports (and_left (nat_lt m.port ports) (on_ports l) h), and_right (nat_lt m.port ports) (on_ports l) h)

sum_one : (q n : ℕ) → q < n → sum_below (λ p. same p q) n ≡ 1
sum_one q zero h = absurd (omega arith)
sum_one q (suc n) h =
    by_eq n q
    (λ e. let a = same_yes n q e in let b = none q n (omega arith) in omega arith)
    (λ k. let a = same_no n q k in let b = sum_one q n (omega arith) in omega arith)
  where
    none : (q n : ℕ) → n ≤ q → sum_below (λ p. same p q) n ≡ 0
    none q zero h = refl
    none q (suc n) h = let a = same_no n q (λ e. omega arith) in let b = none q n (omega arith) in omega arith

sum_zero : (n : ℕ) → sum_below (λ p. 0) n ≡ 0
sum_zero zero = refl
sum_zero (suc n) = let h = sum_zero n in omega arith

-- a log has as many messages as its ports together
pub length_by_port : (l : List Message) → on_ports l ≡ true → length l ≡ sum_below (λ p. saved_on p l) ports
length_by_port [] h = sym (sum_zero ports)
length_by_port (m ∷ l) h =
    let p = ports_cons m l h in
    let a : sum_below (λ i. saved_on i (m ∷ l)) ports ≡ sum_below (λ i. same i m.port + saved_on i l) ports =
    sum_same (λ i. saved_on i (m ∷ l)) (λ i. same i m.port + saved_on i l) ports (λ i k. saved_cons i m l) in
    let b = sum_add (λ i. same i m.port) (λ i. saved_on i l) ports in
    let c = sum_one m.port ports p.0 in
    let d = length_by_port l p.1 in
    omega arith
