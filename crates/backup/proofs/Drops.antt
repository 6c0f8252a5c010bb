-- Laws of what a sync drops: what stays of a log, how a drop meets arrivals and further drops, its ports and lengths, and that a fit value stays
-- fit. They rest on `Replica.remaining`, and stand here so that a wrong `remaining` is refused for what it says.
use Rattle.std.specs.Prelude.{◌≡◌, ℕ, zero, suc, ◌+◌, ◌-◌, ◌<◌, ◌≤◌, true, List, [], ◌∷◌, ◌++◌, length, drop, nat_lt, refl}
use Rattle.std.proofs.Common.{ap, sym, ◌∙◌, arith, length-drop, eq-eqb, ne_eqb, lt-ltb}
use mathlib.Core.List.{Sublistᴰ}
use Rattle.facts.specs.Tests.{by_eq, and_both}
use Rattle.facts.specs.Sums.{◌⊕◌, get_or-⊕, sum_below, sum_add, sum_same}
use Rattle.facts.specs.Counts.{same_yes, same_no}
use Rattle.backup.specs.Limits.{ports}
use Rattle.backup.specs.Replica.{Message, on_ports}
use Rattle.backup.specs.Replica.{saved_on, taken_on, one_less, remaining}
use Rattle.backup.specs.Limits.{pc_most}
use Rattle.backup.specs.Replica.{Replica, Checkpoint, fit, synced}
use Rattle.backup.specs.Accepts.{fit_parts, parts-fit}
use Rattle.backup.specs.Laws.{taken_less, taken-other, by_taken, on_port, on_same, on_other, saved_cons, saved-length, ports_cons, length_by_port}

-- ---- one message of a drop: it stays, or it goes

pub stays : (t : List ℕ) (m : Message) (l : List Message) → taken_on t m.port ≡ 0 → remaining t (m ∷ l) ≡ m ∷ remaining t l
stays t m l h = rw (eq-eqb (taken_on t m.port) 0 h)

pub goes : (t : List ℕ) (m : Message) (l : List Message) → 1 ≤ taken_on t m.port → remaining t (m ∷ l) ≡ remaining (one_less t m.port) l
goes t m l h = rw (ne_eqb (taken_on t m.port) 0 (λ e. omega arith))

drop_one : (m : Message) (l : List Message) (n : ℕ) → 1 ≤ n → drop (n - 1) l ≡ drop n (m ∷ l)
drop_one m l zero h = absurd (omega arith)
drop_one m l (suc n) h = let e : suc n - 1 ≡ n = omega arith in rw e

-- A drop goes port by port: of each port's messages the oldest go, as many as were taken on it.
pub port_by_port : (p : ℕ) (t : List ℕ) (l : List Message) → on_port p (remaining t l) ≡ drop (taken_on t p) (on_port p l)
port_by_port p t [] = sym (go (taken_on t p))
  where
    go : (n : ℕ) → ◌≡◌ {A = List Message} (drop n []) []
    go zero = refl
    go (suc n) = refl
port_by_port p t (m ∷ l) =
    by_taken t m.port
    (λ z. rw (stays t m l z) (by_eq p m.port
    (λ e. let k : taken_on t p ≡ 0 = ap (taken_on t) e ∙ z in
    on_same p m (remaining t l) e ∙ ap (λ (r : List Message). m ∷ r) (port_by_port p t l ∙ ap (λ (n : ℕ). drop n (on_port p l)) k)
    ∙ rw (on_same p m l e, k))
    (λ n. on_other p m (remaining t l) n ∙ port_by_port p t l ∙ ap (drop (taken_on t p)) (sym (on_other p m l n)))))
    (λ g. rw (goes t m l g) (port_by_port p (one_less t m.port) l ∙ by_eq p m.port
    (λ e. rw (on_same p m l e, e, taken_less t m.port) (drop_one m (on_port m.port l) (taken_on t m.port) g))
    (λ n. rw (taken-other t m.port p n, on_other p m l n))))

-- so each port has as many less as were taken on it
pub saved-remaining : (p : ℕ) (t : List ℕ) (l : List Message) → saved_on p (remaining t l) ≡ saved_on p l - taken_on t p
saved-remaining p t l =
    sym (saved-length p (remaining t l)) ∙ ap length (port_by_port p t l) ∙ length-drop (taken_on t p) (on_port p l)
    ∙ ap (λ (n : ℕ). n - taken_on t p) (saved-length p l)

-- What stays keeps its order.
pub order_kept : (t : List ℕ) (l : List Message) → Sublistᴰ (remaining t l) l
order_kept t [] = Sublistᴰ.slnil
order_kept t (m ∷ l) =
    by_taken t m.port
    (λ z. rw (stays t m l z) (Sublistᴰ.cons-cons refl (order_kept t l)))
    (λ g. rw (goes t m l g) (Sublistᴰ.cons (order_kept (one_less t m.port) l)))

-- ---- drops and further drops

-- a drop goes by the takes of each port alone
pub same_takes : (s t : List ℕ) (l : List Message) → ((p : ℕ) → taken_on s p ≡ taken_on t p) → remaining s l ≡ remaining t l
same_takes s t [] h = refl
same_takes s t (m ∷ l) h =
    by_taken s m.port
    (λ z. stays s m l z ∙ ap (λ (r : List Message). m ∷ r) (same_takes s t l h) ∙ sym (stays t m l (sym (h m.port) ∙ z)))
    (λ g. goes s m l g ∙ same_takes (one_less s m.port) (one_less t m.port) l (λ p. by_eq p m.port
    (λ e. rw e (let a = taken_less s m.port in let b = taken_less t m.port in let k = h m.port in omega arith))
    (λ n. taken-other s m.port p n ∙ h p ∙ sym (taken-other t m.port p n)))
    ∙ sym (goes t m l (let k = h m.port in omega arith)))

-- no takes, no drop
pub none-taken : (t : List ℕ) (l : List Message) → ((p : ℕ) → taken_on t p ≡ 0) → remaining t l ≡ l
none-taken t [] h = refl
none-taken t (m ∷ l) h = stays t m l (h m.port) ∙ ap (λ (r : List Message). m ∷ r) (none-taken t l h)

less_left : (s t : List ℕ) (q : ℕ) → 1 ≤ taken_on s q → (p : ℕ) → taken_on (◌⊕◌ (one_less s q) t) p ≡ taken_on (one_less (◌⊕◌ s t) q) p
less_left s t q g p =
    let a = get_or-⊕ (one_less s q) t p in
    let b = get_or-⊕ s t p in
    by_eq p q
    (λ e. let c = taken_less s q in let d = taken_less (◌⊕◌ s t) q in
    rw e (let a' = get_or-⊕ (one_less s q) t q in let b' = get_or-⊕ s t q in omega arith))
    (λ n. let c = taken-other s q p n in let d = taken-other (◌⊕◌ s t) q p n in omega arith)

less_right : (s t : List ℕ) (q : ℕ) → 1 ≤ taken_on t q → (p : ℕ) → taken_on (◌⊕◌ s (one_less t q)) p ≡ taken_on (one_less (◌⊕◌ s t) q) p
less_right s t q g p =
    let a = get_or-⊕ s (one_less t q) p in
    let b = get_or-⊕ s t p in
    by_eq p q
    (λ e. let c = taken_less t q in let d = taken_less (◌⊕◌ s t) q in
    rw e (let a' = get_or-⊕ s (one_less t q) q in let b' = get_or-⊕ s t q in omega arith))
    (λ n. let c = taken-other t q p n in let d = taken-other (◌⊕◌ s t) q p n in omega arith)

-- Dropping s and then t is dropping s + t.
pub drop-drop : (s t : List ℕ) (l : List Message) → remaining t (remaining s l) ≡ remaining (◌⊕◌ s t) l
drop-drop s t [] = refl
drop-drop s t (m ∷ l) =
    let q = m.port in
    let sum = get_or-⊕ s t q in
    by_taken s q
    (λ z. ap (remaining t) (stays s m l z) ∙ by_taken t q
    (λ y. stays t m (remaining s l) y ∙ ap (λ (r : List Message). m ∷ r) (drop-drop s t l) ∙ sym (stays (◌⊕◌ s t) m l (omega arith)))
    (λ g. goes t m (remaining s l) g ∙ drop-drop s (one_less t q) l ∙ same_takes _ _ l (less_right s t q g)
    ∙ sym (goes (◌⊕◌ s t) m l (omega arith))))
    (λ g. ap (remaining t) (goes s m l g) ∙ drop-drop (one_less s q) t l ∙ same_takes _ _ l (less_left s t q g)
    ∙ sym (goes (◌⊕◌ s t) m l (omega arith)))

-- ---- drops and arrivals

-- An arrival commutes with a drop that was possible before it.
pub drop-arrive : (t : List ℕ) (l : List Message) (m : Message) → taken_on t m.port ≤ saved_on m.port l
    → remaining t (l ++ (m ∷ [])) ≡ remaining t l ++ (m ∷ [])
drop-arrive t [] m h = stays t m [] (omega arith)
drop-arrive t (x ∷ l) m h =
    let n = saved_cons m.port x l in
    by_taken t x.port
    (λ z. stays t x (l ++ (m ∷ [])) z ∙ ap (λ (r : List Message). x ∷ r) (drop-arrive t l m (by_eq m.port x.port
    (λ e. let k : taken_on t m.port ≡ 0 = ap (taken_on t) e ∙ z in omega arith)
    (λ d. let o = same_no m.port x.port d in omega arith)))
    ∙ ap (λ (r : List Message). r ++ (m ∷ [])) (sym (stays t x l z)))
    (λ g. goes t x (l ++ (m ∷ [])) g ∙ drop-arrive (one_less t x.port) l m (by_eq m.port x.port
    (λ e. let o = same_yes m.port x.port e in let k : taken_on (one_less t x.port) m.port ≡ taken_on t m.port - 1 =
    rw e (taken_less t x.port) in omega arith)
    (λ d. let o = same_no m.port x.port d in let k = taken-other t x.port m.port d in omega arith))
    ∙ ap (λ (r : List Message). r ++ (m ∷ [])) (sym (goes t x l g)))

pub ports-remaining : (t : List ℕ) (l : List Message) → on_ports l ≡ true → on_ports (remaining t l) ≡ true
ports-remaining t [] h = refl
ports-remaining t (m ∷ l) h =
    let p = ports_cons m l h in
    by_taken t m.port
    (λ z. rw (stays t m l z) (and_both (nat_lt m.port ports) (on_ports (remaining t l)) (lt-ltb m.port ports p.0)
    (ports-remaining t l p.1)))
    (λ g. rw (goes t m l g) (ports-remaining (one_less t m.port) l p.1))

pub shorter : (t : List ℕ) (l : List Message) → length (remaining t l) ≤ length l
shorter t [] = omega arith
shorter t (m ∷ l) =
    by_taken t m.port
    (λ z. rw (stays t m l z) (let h = shorter t l in omega arith))
    (λ g. rw (goes t m l g) (let h = shorter (one_less t m.port) l in omega arith))

-- what is dropped and what stays make the log
pub length-remaining : (t : List ℕ) (l : List Message) → on_ports l ≡ true → ((p : ℕ) → p < ports → taken_on t p ≤ saved_on p l)
    → length (remaining t l) + sum_below (taken_on t) ports ≡ length l
length-remaining t l h c =
    let a = length_by_port (remaining t l) (ports-remaining t l h) in
    let b = length_by_port l h in
    let d = sum_add (λ p. saved_on p (remaining t l)) (taken_on t) ports in
    let e : sum_below (λ p. saved_on p (remaining t l) + taken_on t p) ports ≡ sum_below (λ p. saved_on p l) ports =
    sum_same (λ p. saved_on p (remaining t l) + taken_on t p) (λ p. saved_on p l) ports
    (λ p k. let s = saved-remaining p t l in let q = c p k in omega arith) in
    omega arith

-- ---- a fit value stays fit

pub synced-fit : (r : Replica) (c : Checkpoint) → fit r ≡ true → c.pc ≤ pc_most → fit (synced r c) ≡ true
synced-fit r c f p =
    let h = fit_parts r f in
    parts-fit (synced r c) record {
      few = (let a = shorter c.taken r.log in let b = h.few in omega arith);
      on_ports_lem = ports-remaining c.taken r.log h.on_ports_lem;
      sent_small = omega arith;
      pc_small = p;
    }
