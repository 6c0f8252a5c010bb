-- How many words of a channel are unread, wait in an outbox, or are in flight: what appending, storing and receiving do to them.
use mathlib.Core.Path.{◌≡◌, refl, ap, sym, ◌∙◌}
use mathlib.Core.Bool.{cond}
use mathlib.Core.List.{List, [], ◌∷◌, ◌++◌, map}
use Prim.Native.Nat.{◌<◌, ℕ, ◌+◌, ◌≤◌}
use native.Mathlib.Omega.{arith}
use lib.Dec.{eqb}
use lib.ListN.{length, get_or, set, replicate, get_or-eq_default}
use lib.Seq.{set_out}
use Rattle.facts.specs.Tests.{no_way, by_lt}
use Rattle.facts.specs.Counts.{total, total_append, total-set, total-set_less, total-replicate, same, occurs, cond_more}
use Rattle.rules.specs.Table.{Instruction}
use Rattle.rules.specs.Machine.{Mail, Machine, Act, internal, took, sent}
use Rattle.rules.specs.Cabinet.{Item, unread_on, is_on, queued_on, in_flight}
use Rattle.rules.proofs.Steps.{Steps, step_left, pulled_total}
use Rattle.rules.proofs.Runs.{Run, here, more, takes1, takes}

-- ---- unread words

abbrev on_channel : ℕ → Mail → ℕ
on_channel k x = same k x.channel

unread-total : (k : ℕ) (l : List Mail) → unread_on k l ≡ total (on_channel k) l
unread-total k [] = refl
unread-total k (x ∷ l) = let a = cond_more (eqb k x.channel) (unread_on k l) in let b = unread-total k l in omega arith

pub unread-occurs : (k : ℕ) (l : List Mail) → unread_on k l ≡ occurs k (map (λ (x : Mail). x.channel) l)
unread-occurs k [] = refl
unread-occurs k (x ∷ l) = let a = cond_more (eqb k x.channel) (unread_on k l) in let b = unread-occurs k l in omega arith

pub unread_both : (k : ℕ) (l r : List Mail) → unread_on k (l ++ r) ≡ unread_on k l + unread_on k r
unread_both k l r =
    let a = unread-total k (l ++ r) in
    let b = unread-total k l in
    let c = unread-total k r in
    let d = total_append (on_channel k) l r in
    omega arith

pub unread_append : (k : ℕ) (l : List Mail) (x : Mail) → unread_on k (l ++ (x ∷ [])) ≡ unread_on k l + same k x.channel
unread_append k l x = let a = unread_both k l (x ∷ []) in let b = unread-total k (x ∷ []) in omega arith

-- ---- words in flight

-- 1 for a word of channel k, otherwise 0
abbrev pub weight : ℕ → Item → ℕ
weight k x = cond (is_on k x) 1 0

queued-total : (k : ℕ) (q : List Item) → queued_on k q ≡ total (weight k) q
queued-total k [] = refl
queued-total k (x ∷ q) = let a = cond_more (is_on k x) (queued_on k q) in let b = queued-total k q in omega arith

pub flight_total : (k : ℕ) (qs : List (List Item)) → in_flight k qs ≡ total (queued_on k) qs
flight_total k [] = refl
flight_total k (q ∷ qs) = let h = flight_total k qs in omega arith

-- an entry joins an outbox
pub flight_joined : (k : ℕ) (qs : List (List Item)) (b : ℕ) (x : Item) → b < length qs
    → in_flight k (set qs b (get_or qs b [] ++ (x ∷ []))) ≡ in_flight k qs + weight k x
flight_joined k qs b x h =
    let a = flight_total k qs in
    let d = flight_total k (set qs b (get_or qs b [] ++ (x ∷ []))) in
    let e = total-set (queued_on k) qs b (get_or qs b [] ++ (x ∷ [])) [] h in
    let f = queued-total k (get_or qs b [] ++ (x ∷ [])) in
    let g = queued-total k (get_or qs b []) in
    let i = total_append (weight k) (get_or qs b []) (x ∷ []) in
    omega arith

-- (an outbox that isn't there changes nothing)
pub flight_join : (k : ℕ) (qs : List (List Item)) (b : ℕ) (x : Item) → in_flight k (set qs b (get_or qs b [] ++ (x ∷ []))) ≤ in_flight k qs + weight k x
flight_join k qs b x =
    by_lt b (length qs)
    (λ h. let a = flight_joined k qs b x h in omega arith)
    (λ h. rw (set_out qs b (get_or qs b [] ++ (x ∷ [])) h) (omega arith))

-- the oldest entry leaves an outbox
pub flight_leave : (k : ℕ) (qs : List (List Item)) (b : ℕ) (x : Item) (q : List Item) → get_or qs b [] ≡ x ∷ q → in_flight k (set qs b q) + weight k x ≡ in_flight k qs
flight_leave k qs b x q e =
    by_lt b (length qs)
    (λ h. let a = flight_total k qs in
    let d = flight_total k (set qs b q) in
    let n = total-set (queued_on k) qs b q [] h in
    let f : queued_on k (get_or qs b []) ≡ queued_on k (x ∷ q) = ap (queued_on k) e in
    let g = cond_more (is_on k x) (queued_on k q) in
    omega arith)
    (λ h. let z : x ∷ q ≡ [] = sym e ∙ get_or-eq_default qs [] h in absurd (no_way (cc)))

-- an outbox is lost
pub flight_lost : (k : ℕ) (qs : List (List Item)) (b : ℕ) → in_flight k (set qs b []) ≤ in_flight k qs
flight_lost k qs b =
    let a = flight_total k qs in
    let d = flight_total k (set qs b []) in
    let e = total-set_less (queued_on k) qs b [] refl in
    omega arith

pub flight_none : (k n : ℕ) → in_flight k (replicate n []) ≡ 0
flight_none k n = flight_total k (replicate n []) ∙ total-replicate (queued_on k) n [] refl

-- ---- a receive removes one word, of its channel

pub step-unread : {code : List Instruction} {m m1 : Machine} (k : ℕ) (a : Act) → Steps code m a m1
    → unread_on k m.mailbox ≡ unread_on k m1.mailbox + occurs k (takes1 a)
step-unread k internal e = let h = ap (unread_on k) (step_left e) in omega arith
step-unread {m = m} {m1 = m1} k (took x) e =
    let h = pulled_total (on_channel k) (step_left e) in
    let a = unread-total k m.mailbox in
    let b = unread-total k m1.mailbox in
    omega arith
step-unread k (sent x) e = let h = ap (unread_on k) (step_left e) in omega arith

pub run-unread : {code : List Instruction} {m m1 : Machine} {acts : List Act} (k : ℕ) → Run code m acts m1
    → unread_on k m.mailbox ≡ unread_on k m1.mailbox + occurs k (takes acts)
run-unread k here = omega arith
run-unread k (more {k = a} {ks = acts} e r) =
    let h = step-unread k a e in
    let n = run-unread k r in
    let d = total_append (same k) (takes1 a) (takes acts) in
    omega arith
