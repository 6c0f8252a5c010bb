-- Runs of one machine: local steps with their acts, how many of the acts are sends, takes or either, and that an arrival disturbs no run.
use mathlib.Core.Path.{◌≡◌, refl, ap}
use mathlib.Core.Bool.{Bool, true, false}
use mathlib.Core.List.{List, [], ◌∷◌, ◌++◌}
use Prim.Native.Nat.{ℕ, suc, ◌+◌, ◌≤◌, ◌<◌}
use native.Mathlib.Omega.{arith}
use lib.ListN.{length, get_or, set, length-append}
use Rattle.facts.specs.Tests.{no_way}
use Rattle.rules.specs.Table.{Table, Instruction, port_of}
use Rattle.rules.specs.Machine.{Mail, Machine, Act, internal, took, sent, delivered}
use Rattle.rules.specs.Cabinet.{instructions_most, Since, no_takes}
use Rattle.rules.specs.Moves.{one_done, one_sent, one_taken}
use Rattle.rules.proofs.Steps.{Steps, step_later, step_left, pulled_length}

pub data Run (code : List Instruction) : Machine → List Act → Machine → Type 0 where
  here : {m : Machine} → Run code m [] m
  more : {m m1 m2 : Machine} {k : Act} {ks : List Act} → Steps code m k m1 → Run code m1 ks m2 → Run code m (k ∷ ks) m2

infixr 40 ◌then◌
pub ◌then◌ : {code : List Instruction} {a b c : Machine} {ks js : List Act} → Run code a ks b → Run code b js c → Run code a (ks ++ js) c
here then s = s
more e r then s = more e (r then s)

-- an arrival disturbs no run, since taking is always of the oldest
pub run_later : {code : List Instruction} {a b : Machine} {ks : List Act} (x : Mail) → Run code a ks b → Run code (delivered x a) ks (delivered x b)
run_later x here = here
run_later x (more e r) = more (step_later x e) (run_later x r)

-- ---- sends

abbrev pub is_send : Act → Bool
is_send internal = false
is_send (took x) = false
is_send (sent x) = true

abbrev pub one_send : Act → ℕ → ℕ
one_send internal n = n
one_send (took x) n = n
one_send (sent x) n = suc n

-- how many acts are sends
abbrev pub sends : List Act → ℕ
sends [] = 0
sends (k ∷ ks) = one_send k (sends ks)

-- the last act, if there is one, is a send
abbrev pub last_send : Bool → List Act → Bool
last_send b [] = b
last_send b (k ∷ ks) = last_send (is_send k) ks

-- no act is a send
abbrev pub Silent : List Act → Type 0
Silent [] = Unit {0}
Silent (k ∷ ks) = (is_send k ≡ false) × Silent ks

pub last_send_append : (b : Bool) (ks js : List Act) → last_send b (ks ++ js) ≡ last_send (last_send b ks) js
last_send_append b [] js = refl
last_send_append b (k ∷ ks) js = last_send_append (is_send k) ks js

pub sends_append : (ks js : List Act) → sends (ks ++ js) ≡ sends ks + sends js
sends_append [] js = omega arith
sends_append (internal ∷ ks) js = sends_append ks js
sends_append (took x ∷ ks) js = sends_append ks js
sends_append (sent x ∷ ks) js = let h = sends_append ks js in omega arith

pub sends_silent : (ks : List Act) (x : Mail) → Silent ks → sends (ks ++ (sent x ∷ [])) ≡ 1
sends_silent [] x h = refl
sends_silent (internal ∷ ks) x h = sends_silent ks x h.1
sends_silent (took y ∷ ks) x h = sends_silent ks x h.1
sends_silent (sent y ∷ ks) x h = absurd (no_way (cc))

-- ---- takes

-- the channels that were taken from, oldest take first
abbrev pub takes1 : Act → List ℕ
takes1 internal = []
takes1 (took x) = x.channel ∷ []
takes1 (sent x) = []

abbrev pub takes : List Act → List ℕ
takes [] = []
takes (k ∷ ks) = takes1 k ++ takes ks

-- the takes of process p, counted by port (document 01: "takes per slot")
abbrev pub tally1 : Table → ℕ → Act → List ℕ → List ℕ
tally1 t p internal n = n
tally1 t p (took x) n = let port = port_of t p x.channel in set n port (suc (get_or n port 0))
tally1 t p (sent x) n = n

abbrev pub tally : Table → ℕ → List Act → List ℕ
tally t p [] = no_takes
tally t p (k ∷ ks) = tally1 t p k (tally t p ks)

-- ---- events: takes and sends together

abbrev pub busy1 : Act → ℕ
busy1 internal = 0
busy1 (took x) = 1
busy1 (sent x) = 1

abbrev pub busy : List Act → ℕ
busy [] = 0
busy (k ∷ ks) = busy1 k + busy ks

-- ---- what is counted of them

-- one act more
abbrev pub count1 : Table → ℕ → Act → Since → Since
count1 t p internal n = one_done n
count1 t p (took x) n = one_taken (port_of t p x.channel) n
count1 t p (sent x) n = one_sent n

abbrev pub count_of : Table → ℕ → List Act → Since
count_of t p ks = record { instructions = length ks; events = busy ks; taken = tally t p ks }

-- no more than 37 lets pass between two issues
pub record Within (limit : ℕ) (ks : List Act) : Type 0 where
  pub instructions : length ks ≤ instructions_most
  pub events : busy ks ≤ limit

-- what 37 asks before one act more
pub record Allows (limit : ℕ) (k : Act) (n : Since) : Type 0 where
  pub instruction : n.instructions < instructions_most
  pub event : n.events ≤ limit → n.events + busy1 k ≤ limit

pub busy_append : (ks js : List Act) → busy (ks ++ js) ≡ busy ks + busy js
busy_append [] js = omega arith
busy_append (k ∷ ks) js = let h = busy_append ks js in omega arith

pub busy_snoc : (ks : List Act) (k : Act) → busy (ks ++ (k ∷ [])) ≡ busy ks + busy1 k
busy_snoc ks k = let h = busy_append ks (k ∷ []) in omega arith

pub length_snoc : (ks : List Act) (k : Act) → length (ks ++ (k ∷ [])) ≡ suc (length ks)
length_snoc ks k = let h = length-append ks (k ∷ []) in omega arith

-- within the limits, one act more that is allowed
pub within_snoc : (t : Table) (p : ℕ) (ks : List Act) (k : Act) {limit : ℕ} {n : Since} → n ≡ count_of t p ks → Within limit ks → Allows limit k n
    → Within limit (ks ++ (k ∷ []))
within_snoc t p ks k e h a =
    let i = ap (λ (m : Since). m.instructions) e in
    let b = ap (λ (m : Since). m.events) e in
    let l = h.events in
    record {
      instructions = omega (arith, length_snoc ks k, a.instruction);
      events = omega (arith, busy_snoc ks k, a.event (omega arith));
    }

pub sends_busy : (ks : List Act) → sends ks ≤ busy ks
sends_busy [] = omega arith
sends_busy (internal ∷ ks) = let h = sends_busy ks in omega arith
sends_busy (took x ∷ ks) = let h = sends_busy ks in omega arith
sends_busy (sent x ∷ ks) = let h = sends_busy ks in omega arith

pub takes_busy : (ks : List Act) → length (takes ks) ≤ busy ks
takes_busy [] = omega arith
takes_busy (internal ∷ ks) = let h = takes_busy ks in omega arith
takes_busy (took x ∷ ks) = let h = takes_busy ks in omega arith
takes_busy (sent x ∷ ks) = let h = takes_busy ks in omega arith

-- each take removes one word, and nothing else does
pub step-shorter : {code : List Instruction} {a b : Machine} (k : Act) → Steps code a k b → length a.mailbox ≤ length b.mailbox + busy1 k
step-shorter internal e = let h = ap length (step_left e) in omega arith
step-shorter (took x) e = let h = pulled_length (step_left e) in omega arith
step-shorter (sent x) e = let h = ap length (step_left e) in omega arith

pub run-shorter : {code : List Instruction} {a b : Machine} {ks : List Act} → Run code a ks b → length a.mailbox ≤ length b.mailbox + busy ks
run-shorter here = omega arith
run-shorter (more {k = k} e r) = let h = run-shorter r in let n = step-shorter k e in omega arith
