-- One pass over a log, in three loops: what is true between two of its rounds.
use Rattle.std.proofs.Common.{◌≡◌, ℕ, suc, ◌+◌, ◌-◌, ◌%◌, ◌<◌, ◌≤◌, true, false, ltb, List, [], ◌∷◌, ◌++◌, map, length, get_or, drop, set, sym, refl, ap, ◌∙◌, append_assoc, append-nil, add-one, arith, length-drop, length-set, get_or-drop, drop-cons, get_or-set_other, ext_get_or, ltb-true}
use mathlib.Core.List.{map-append}
use lib.ListN.{length-map, get_or-map, get_or-eq_default}
use lib.Seq.{set-get_or, drop-length}
use Rattle.facts.specs.Tests.{all_at, by_lt}
use Rattle.facts.specs.Lists.{prefix, length-prefix, prefix_push, get_or_prefix, listed_same, prefix-listed}
use Rattle.backup.specs.Limits.{log_most, ports}
use Rattle.backup.specs.Replica.{Message, on_ports, taken_on, one_less, remaining, lacking}
use Rattle.backup.specs.Laws.{by_taken}
use Rattle.backup.proofs.Drops.{stays, goes, none-taken, length-remaining}
use Rattle.backup.specs.Accepts.{enough}
use Rattle.backup.specs.Place.{port_in, unpack, messages, Dropped}
use Rattle.backup.specs.Rounds.{all_taken, all_taken_less, all_taken-none}

pub messages-length : (n : ℕ) (log : List ℕ) → length (messages n log) ≡ n
messages-length n log = length-map (prefix n log) unpack ∙ length-prefix n log

pub message_at_lem : (n : ℕ) (log : List ℕ) (i : ℕ) → i < n → get_or (messages n log) i (unpack 0) ≡ unpack (get_or log i 0)
message_at_lem n log i h = get_or-map unpack (prefix n log) i 0 ∙ ap unpack (get_or_prefix n log i h)

-- Of len messages of log₀ a loop has looked at i. What stays of them stands at the log's front, and with what a drop of `left` leaves of
-- the rest it is `goal`, supposing H. From i on the log is as it was.
pub record Passing (H : Type 0) (goal : List Message) (log₀ : List ℕ) (len : ℕ) (log left : List ℕ) (i kept : ℕ) : Type 0 where
  pub looked : i ≤ len
  pub few : kept ≤ i
  pub same_length : length log ≡ length log₀
  pub ahead : (j : ℕ) → i ≤ j → get_or log j 0 ≡ get_or log₀ j 0
  pub whole : H → messages kept log ++ remaining left (drop i (messages len log₀)) ≡ goal

pub passing_start : {H : Type 0} (log : List ℕ) (len : ℕ) (left : List ℕ) (i kept : ℕ) → i ≤ len → kept ≤ i
    → Passing H (messages kept log ++ remaining left (drop i (messages len log))) log len log left i kept
passing_start log len left i kept h k = record { looked = h; few = k; same_length = refl; ahead = λ j l. refl; whole = λ _. refl }

module _ {H : Type 0} {goal : List Message} {log₀ : List ℕ} {len : ℕ} {log left : List ℕ} {i kept : ℕ}
    (p : Passing H goal log₀ len log left i kept) (h : i < len) where
  -- the message that this round looks at
  this : Message
  this = unpack (get_or log i 0)

  this_at : get_or (messages len log₀) i (unpack 0) ≡ this
  unfolding this
  this_at = message_at_lem len log₀ i h ∙ ap unpack (sym (p.ahead i (omega arith)))

  split : drop i (messages len log₀) ≡ this ∷ drop (i + 1) (messages len log₀)
  split = rw add-one (drop-cons (messages len log₀) i (unpack 0) (rw (messages-length len log₀) h) ∙ ap (λ (m : Message). m ∷ drop (suc i) (messages len log₀)) this_at)

  -- takes of its port are left: it goes
  pub passing_goes : (s : ℕ) → (H → s ≡ port_in (get_or log i 0)) → 0 < get_or left s 0 → Passing H goal log₀ len log (set left s (get_or left s 0 - 1)) (i + 1) kept
  unfolding this
  passing_goes s e g = record {
    looked = omega arith;
    few = (let f = p.few in omega arith);
    same_length = p.same_length;
    ahead = λ j l. p.ahead j (omega arith);
    whole = λ k.
        let q : s ≡ port_in (get_or log i 0) = e k in
        let u : one_less left (port_in (get_or log i 0)) ≡ set left s (get_or left s 0 - 1) = rw q in
        ap (λ (l : List ℕ). messages kept log ++ remaining l (drop (i + 1) (messages len log₀))) (sym u)
        ∙ ap (λ (r : List Message). messages kept log ++ r) (sym (goes left this (drop (i + 1) (messages len log₀)) (rw (← q) g)))
        ∙ ap (λ (r : List Message). messages kept log ++ remaining left r) (sym split)
        ∙ p.whole k;
  }

  -- none is left: it stays, moved to the front
  pub passing_stays : (H → length log₀ ≡ log_most) → (H → taken_on left (port_in (get_or log i 0)) ≡ 0) → len ≤ log_most
      → Passing H goal log₀ len (set log kept (get_or log i 0)) left (i + 1) (kept + 1)
  unfolding this
  passing_stays n z small = record {
    looked = omega arith;
    few = (let f = p.few in omega arith);
    same_length = length-set log kept (get_or log i 0) ∙ p.same_length;
    ahead = λ j l. get_or-set_other log kept j (get_or log i 0) 0 (λ c. let f = p.few in omega arith) ∙ p.ahead j (omega arith);
    whole = λ k.
        let front : messages (kept + 1) (set log kept (get_or log i 0)) ≡ messages kept log ++ (this ∷ []) =
        rw add-one (ap (map unpack) (prefix_push kept log (get_or log i 0) (let f = p.few in let a = p.same_length in let b = n k in omega arith))
        ∙ map-append unpack (prefix kept log) (get_or log i 0 ∷ [])) in
        ap (λ (r : List Message). r ++ remaining left (drop (i + 1) (messages len log₀))) front
        ∙ append_assoc (messages kept log) (this ∷ []) (remaining left (drop (i + 1) (messages len log₀)))
        ∙ ap (λ (r : List Message). messages kept log ++ r) (sym (stays left this (drop (i + 1) (messages len log₀)) (z k)))
        ∙ ap (λ (r : List Message). messages kept log ++ remaining left r) (sym split)
        ∙ p.whole k;
  }

-- a store behind what stays changes nothing
passing_spare : {H : Type 0} {goal : List Message} {log₀ : List ℕ} {len : ℕ} {log left : List ℕ} {i kept : ℕ} → Passing H goal log₀ len log left i kept → (x : ℕ) → kept < i
    → Passing H goal log₀ len (set log kept x) left i kept
passing_spare {log₀ = log₀} {len = len} {log = log} {left = left} {i = i} {kept = kept} p x h = record {
  looked = p.looked;
  few = p.few;
  same_length = length-set log kept x ∙ p.same_length;
  ahead = λ j l. get_or-set_other log kept j x 0 (λ c. omega arith) ∙ p.ahead j l;
  whole = λ k. ap (λ (f : List ℕ). map unpack f ++ remaining left (drop i (messages len log₀))) same-front ∙ p.whole k;
}
  where
    same-front : prefix kept (set log kept x) ≡ prefix kept log
    same-front =
        prefix-listed kept (set log kept x)
        ∙ listed_same (λ j. get_or (set log kept x) j 0) (λ j. get_or log j 0) kept (λ j l. get_or-set_other log kept j x 0 (λ c. omega arith))
        ∙ sym (prefix-listed kept log)

-- ---- the first and the second loop: they look for what goes

-- what a drop supposes: an array of the right length, and messages on their ports from i on
abbrev pub Placed : List ℕ → ℕ → ℕ → Type 0
Placed log len i = (length log ≡ log_most) × ((j : ℕ) → i ≤ j → j < len → port_in (get_or log j 0) < ports)

-- Such a loop began at i₁, with kept₁ messages that stay and rounds₁ rounds, to drop left₁: due is what is still to go, and each message looked
-- at was a round.
pub record Sifting (log₁ : List ℕ) (len i₁ kept₁ rounds₁ : ℕ) (left₁ log left : List ℕ) (due i kept rounds : ℕ) : Type 0 where
  pub passing : Passing (Placed log₁ len i₁) (messages kept₁ log₁ ++ remaining left₁ (drop i₁ (messages len log₁))) log₁ len log left i kept
  pub began : i₁ ≤ i
  pub four : length left ≡ ports
  pub owed : due ≡ all_taken left
  pub metered : rounds + i₁ ≡ rounds₁ + i

pub sifting_start : (log : List ℕ) (len : ℕ) (left : List ℕ) (due i kept rounds : ℕ) → i ≤ len → kept ≤ i → length left ≡ ports → due ≡ all_taken left
    → Sifting log len i kept rounds left log left due i kept rounds
sifting_start log len left due i kept rounds l k h e =
    record { passing = passing_start log len left i kept l k; began = omega arith; four = h; owed = e; metered = refl }

module _ {log₁ : List ℕ} {len i₁ kept₁ rounds₁ : ℕ} {left₁ log left : List ℕ} {due i kept rounds : ℕ}
    (f : Sifting log₁ len i₁ kept₁ rounds₁ left₁ log left due i kept rounds) (h : i < len)
    (s : ℕ) (e : s ≡ port_in (get_or log i 0) % 4) where
  -- the lane of this round's message is its port, where it is on one
  lane_is : Placed log₁ len i₁ → s ≡ port_in (get_or log i 0)
  lane_is k =
      let a : port_in (get_or log₁ i 0) < ports = k.1 i f.began h in
      let b : port_in (get_or log i 0) ≡ port_in (get_or log₁ i 0) = ap port_in (f.passing.ahead i (omega arith)) in
      omega arith

  -- one that goes is due
  pub sifting_due : 0 < get_or left s 0 → 0 < due
  sifting_due g = let a = f.owed in let b = all_taken_less left s (omega arith) g in omega arith

  pub sifting_goes : 0 < get_or left s 0 → Sifting log₁ len i₁ kept₁ rounds₁ left₁ log (set left s (get_or left s 0 - 1)) (due - 1) (i + 1) kept (rounds + 1)
  sifting_goes g = record {
    passing = passing_goes f.passing h s lane_is g;
    began = (let a = f.began in omega arith);
    four = length-set left s (get_or left s 0 - 1) ∙ f.four;
    owed = (let a = f.owed in let b = all_taken_less left s (omega arith) g in omega arith);
    metered = (let a = f.metered in omega arith);
  }

  pub sifting_stays : get_or left s 0 ≡ 0 → len ≤ log_most
      → Sifting log₁ len i₁ kept₁ rounds₁ left₁ (set log kept (get_or log i 0)) left due (i + 1) (kept + 1) (rounds + 1)
  sifting_stays z small = record {
    passing = passing_stays f.passing h (λ k. k.0) (λ k. ap (taken_on left) (sym (lane_is k)) ∙ z) small;
    began = (let a = f.began in omega arith);
    four = f.four;
    owed = f.owed;
    metered = (let a = f.metered in omega arith);
  }

  -- what goes, 1 or 0, is due
  pub sifting_owed : (m gone : ℕ) → m ≡ get_or left s 0 - 1 → gone ≡ get_or left s 0 - m → gone ≤ due
  sifting_owed m gone a b = by_taken left s (λ z. omega arith) (λ g. let d = sifting_due g in omega arith)

  -- both at once: with m takes left of this port, 1 or 0 goes; where the message goes, its copy stands behind what stays
  pub sifting_swept : (m gone : ℕ) → m ≡ get_or left s 0 - 1 → gone ≡ get_or left s 0 - m → len ≤ log_most
      → Sifting log₁ len i₁ kept₁ rounds₁ left₁ (set log kept (get_or log i 0)) (set left s m) (due - gone) (i + 1) (kept + (1 - gone)) (rounds + 1)
  sifting_swept m gone a b small =
      by_taken left s
      (λ z.
      let y : set left s m ≡ left = ap (set left s) (let w : m ≡ get_or left s 0 = omega arith in w) ∙ set-get_or left s 0 in
      let d : due - gone ≡ due = omega arith in
      let k : kept + (1 - gone) ≡ kept + 1 = omega arith in
      rw (y, d, k) (sifting_stays z small))
      (λ g.
      let d : due - gone ≡ due - 1 = omega arith in
      let k : kept + (1 - gone) ≡ kept = omega arith in
      let t = sifting_goes g in
      rw (a, d, k) (record {
        passing = passing_spare t.passing (get_or log i 0) (let w = f.passing.few in omega arith);
        began = t.began;
        four = t.four;
        owed = t.owed;
        metered = t.metered;
      }))

-- ---- the third loop: what stands behind moves up

pub record Moving (log₁ : List ℕ) (len i₁ kept₁ rounds₁ : ℕ) (log : List ℕ) (i kept rounds : ℕ) : Type 0 where
  pub passing : Passing (length log₁ ≡ log_most) (messages kept₁ log₁ ++ remaining [] (drop i₁ (messages len log₁))) log₁ len log [] i kept
  pub metered : rounds + i₁ ≡ rounds₁ + i

pub moving_start : (log : List ℕ) (len i kept rounds : ℕ) → i ≤ len → kept ≤ i → Moving log len i kept rounds log i kept rounds
moving_start log len i kept rounds h k = record { passing = passing_start log len [] i kept h k; metered = refl }

pub moving_on : {log₁ : List ℕ} {len i₁ kept₁ rounds₁ : ℕ} {log : List ℕ} {i kept rounds : ℕ} → Moving log₁ len i₁ kept₁ rounds₁ log i kept rounds → i < len
    → len ≤ log_most → Moving log₁ len i₁ kept₁ rounds₁ (set log kept (get_or log i 0)) (i + 1) (kept + 1) (rounds + 1)
moving_on m h small = record { passing = passing_stays m.passing h (λ k. k) (λ _. refl) small; metered = (let a = m.metered in omega arith) }

-- from i on two logs are the same
same-behind : (log log' : List ℕ) (len i : ℕ) → ((j : ℕ) → i ≤ j → get_or log j 0 ≡ get_or log' j 0) → drop i (messages len log) ≡ drop i (messages len log')
same-behind log log' len i h =
    let lengths : (l : List ℕ) → length (drop i (messages len l)) ≡ len - i = λ l. length-drop i (messages len l) ∙ ap (λ (n : ℕ). n - i) (messages-length len l) in
    ext_get_or (unpack 0) (drop i (messages len log)) (drop i (messages len log')) (lengths log ∙ sym (lengths log'))
    (λ j l.
    let k : i + j < len = (let a = lengths log in omega arith) in
    get_or-drop i (messages len log) j (unpack 0) ∙ message_at_lem len log (i + j) k ∙ ap unpack (h (i + j) (omega arith))
    ∙ sym (get_or-drop i (messages len log') j (unpack 0) ∙ message_at_lem len log' (i + j) k))

drop_all : (len : ℕ) (log : List ℕ) → drop len (messages len log) ≡ []
drop_all len log = ap (λ (n : ℕ). drop n (messages len log)) (sym (messages-length len log)) ∙ drop-length (messages len log)

-- what a loop leaves to do, said of the log that it leaves
left_over : {H : Type 0} {goal : List Message} {log₀ : List ℕ} {len : ℕ} {log left : List ℕ} {i kept : ℕ} → Passing H goal log₀ len log left i kept → H
    → messages kept log ++ remaining left (drop i (messages len log)) ≡ goal
left_over {log₀ = log₀} {len = len} {log = log} {left = left} {i = i} {kept = kept} p h =
    ap (λ (r : List Message). messages kept log ++ remaining left r) (same-behind log log₀ len i p.ahead) ∙ p.whole h

-- nothing is due: nothing goes
none_due : (left : List ℕ) (l : List Message) → length left ≡ ports → all_taken left ≡ 0 → remaining left l ≡ l
none_due left l f z = none-taken left l (λ p. by_lt p ports (all_taken-none left z p) (λ q. get_or-eq_default left 0 {n = p} (omega arith)))

-- what stays and what was taken make the log
stay_count : (taken : List ℕ) (len : ℕ) (log : List ℕ) → on_ports (messages len log) ≡ true → lacking taken (messages len log) ≡ false
    → length (remaining taken (messages len log)) + all_taken taken ≡ len
stay_count taken len log k h = length-remaining taken (messages len log) k (enough taken (messages len log) h) ∙ messages-length len log

-- the messages of a log are on their ports
placed-whole : (log : List ℕ) (len : ℕ) → length log ≡ log_most → on_ports (messages len log) ≡ true → Placed log len 0
placed-whole log len h k = (
  h,
  λ j _ l.
      let a : (get_or (messages len log) j (unpack 0)).port < ports =
      ltb-true _ ports (all_at (λ (m : Message). ltb m.port ports) (messages len log) j (unpack 0) k (rw (messages-length len log) l)) in
      let b : (get_or (messages len log) j (unpack 0)).port ≡ port_in (get_or log j 0) = ap (λ (m : Message). m.port) (message_at_lem len log j l) in
      omega arith,
)

-- the three loops together: nothing was due any more after the second, or nothing stood behind
pub passed : {log₀ : List ℕ} {len : ℕ} {taken log₁ left₁ : List ℕ} {due₁ i₁ kept₁ rounds₁ : ℕ} {log₂ left₂ : List ℕ} {due₂ i₂ kept₂ rounds₂ : ℕ}
    {log₃ : List ℕ} {kept rounds : ℕ}
    → Sifting log₀ len 0 0 0 taken log₁ left₁ due₁ i₁ kept₁ rounds₁ → Sifting log₁ len i₁ kept₁ rounds₁ left₁ log₂ left₂ due₂ i₂ kept₂ rounds₂
    → (i₂ < len → due₂ ≡ 0) → Moving log₂ len i₂ kept₂ rounds₂ log₃ len kept rounds
    → Dropped log₀ len taken log₃
passed {log₀} {len} {taken} {log₁} {left₁} {i₁ = i₁} {log₂ = log₂} {left₂ = left₂} {due₂ = due₂} {i₂ = i₂} {kept₂ = kept₂} {log₃ = log₃} {kept = kept} f g z m = record {
  same_length = m.passing.same_length ∙ g.passing.same_length ∙ f.passing.same_length;
  rest = λ h k w. ap (λ (n : ℕ). messages n log₃) (stay_of (kept_are h k) k w) ∙ kept_are h k;
  behind = λ j l.
      m.passing.ahead j l
      ∙ g.passing.ahead j (let a = g.passing.looked in omega arith)
      ∙ f.passing.ahead j (let a = f.passing.looked in omega arith);
}
  where
    none-goes : remaining left₂ (drop i₂ (messages len log₂)) ≡ drop i₂ (messages len log₂)
    none-goes =
        by_lt i₂ len
        (λ l. none_due left₂ (drop i₂ (messages len log₂)) g.four (let a = g.owed in let b = z l in omega arith))
        (λ l.
        let e : i₂ ≡ len = (let a = g.passing.looked in omega arith) in
        let d : drop i₂ (messages len log₂) ≡ [] = ap (λ (n : ℕ). drop n (messages len log₂)) e ∙ drop_all len log₂ in
        ap (remaining left₂) d ∙ sym d)

    -- those that the loops kept
    kept_are : length log₀ ≡ log_most → on_ports (messages len log₀) ≡ true → messages kept log₃ ≡ remaining taken (messages len log₀)
    kept_are h k =
        let p : Placed log₀ len 0 = placed-whole log₀ len h k in
        let q : Placed log₁ len i₁ = (
          f.passing.same_length ∙ h,
          λ j a b. (let c = p.1 j (omega arith) b in let d = ap port_in (f.passing.ahead j a) in omega arith),
        ) in
        let a : messages kept log₃ ++ remaining [] (drop len (messages len log₂)) ≡ messages kept log₃ =
        ap (λ (r : List Message). messages kept log₃ ++ remaining [] r) (drop_all len log₂) ∙ append-nil (messages kept log₃) in
        sym a ∙ m.passing.whole (g.passing.same_length ∙ q.0)
        ∙ ap (λ (r : List Message). messages kept₂ log₂ ++ r) (none-taken [] (drop i₂ (messages len log₂)) (λ p. refl) ∙ sym none-goes)
        ∙ left_over g.passing q
        ∙ left_over f.passing p

    -- are as many as the numbers say
    stay_of : messages kept log₃ ≡ remaining taken (messages len log₀) → on_ports (messages len log₀) ≡ true → lacking taken (messages len log₀) ≡ false → len - all_taken taken ≡ kept
    stay_of r k w =
        let a = stay_count taken len log₀ k w in
        let b : kept ≡ length (remaining taken (messages len log₀)) = sym (messages-length kept log₃) ∙ ap length r in
        omega arith

-- nothing was taken: the log as it is
pub dropped-none : (log : List ℕ) (len : ℕ) (taken : List ℕ) → length taken ≡ ports → all_taken taken ≡ 0 → Dropped log len taken log
dropped-none log len taken f z = record {
  same_length = refl;
  rest = λ h k w.
      let e : len - all_taken taken ≡ len = omega arith in
      ap (λ (n : ℕ). messages n log) e ∙ sym (none_due taken (messages len log) f z);
  behind = λ i l. refl;
}

-- no less was taken than is saved: nothing stays
pub dropped_all : (log : List ℕ) (len : ℕ) (taken : List ℕ) → len ≤ all_taken taken → Dropped log len taken log
dropped_all log len taken l = record {
  same_length = refl;
  rest = λ h k w.
      let e : len - all_taken taken ≡ 0 = omega arith in
      ap (λ (n : ℕ). messages n log) e ∙ sym (none_left (remaining taken (messages len log)) (let a = stay_count taken len log k w in omega arith));
  behind = λ i l. refl;
}
  where
    none_left : (l : List Message) → length l ≡ 0 → l ≡ []
    none_left [] z = refl
    none_left (m ∷ l) z = absurd (omega arith)
