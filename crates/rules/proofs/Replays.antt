-- Rolling forward: a process without a backup that is still behind the reference machine steps along the run that leads there.
use mathlib.Core.Path.{◌≡◌, refl, ◌∙◌, subst}
use mathlib.Core.Bool.{Bool, true, false}
use mathlib.Core.List.{List, [], ◌∷◌, ◌++◌}
use Prim.Native.Nat.{ℕ, suc, ◌<◌}
use native.Mathlib.Omega.{arith}
use lib.ListN.{length}
use Rattle.facts.specs.Tests.{no_way}
use Rattle.rules.specs.Table.{Instruction}
use Rattle.rules.specs.Machine.{Mail, Machine, Act, internal, took, sent, delivered}
use Rattle.rules.proofs.Steps.{Steps, same-machine, same-act}
use Rattle.rules.proofs.Runs.{Run, here, more, ◌then◌, run_later, is_send, one_send, sends, last_send, Silent, last_send_append, sends_append, sends_silent}
use Rattle.rules.proofs.Good.{Replay}

pub replay_later : {code : List Instruction} {a b : Machine} {n : ℕ} {acts : List Act} (x : Mail) → Replay code a n acts b
    → Replay code (delivered x a) n acts (delivered x b)
replay_later x h = record { ran = run_later x h.ran; sent_so = h.sent_so; sealed = h.sealed }

-- the right end goes on to right after the next send
pub replay_on : {code : List Instruction} {a b mid last : Machine} {n : ℕ} {x : Mail} {ks js : List Act} → Replay code a n ks b → Run code b js mid → Silent js
    → Steps code mid (sent x) last → Replay code a (suc n) (ks ++ (js ++ (sent x ∷ []))) last
replay_on {x = x} {ks = ks} {js = js} h r s e =
    record {
      ran = h.ran then (r then more e here);
      sent_so = (let a = sends_append ks (js ++ (sent x ∷ [])) in let b = sends_silent js x s in let d = h.sent_so in omega arith);
      sealed = last_send_append true ks (js ++ (sent x ∷ [])) ∙ last_send_append (last_send true ks) js (sent x ∷ []);
    }

pub replay_none : {code : List Instruction} {a b : Machine} → a ≡ b → Replay code a 0 [] b
replay_none {code} {a} e = record { ran = subst (λ (m : Machine). Run code a [] m) e here; sent_so = refl; sealed = refl }

-- ---- the left end steps

-- what is left of a replay that had more acts
pub record Replays (code : List Instruction) (a : Machine) (n : ℕ) (b : Machine) (before : List Act) : Type 0 where
  pub acts : List Act
  pub fewer : length acts < length before
  pub replay : Replay code a n acts b

-- the last act of a list that has a send doesn't depend on what went before
last-act : (ks : List Act) (n : ℕ) → suc n ≡ sends ks → (b d : Bool) → last_send b ks ≡ last_send d ks
last-act [] n e b d = absurd (omega arith)
last-act (k ∷ ks) n e b d = refl

-- the machine's own step is the first of the run
first_step : {code : List Instruction} {a c b : Machine} {n : ℕ} {ks : List Act} {k : Act} → Run code a ks b → suc n ≡ sends ks → last_send true ks ≡ true
    → Steps code a k c → (js : List Act) × Run code c js b × (suc n ≡ one_send k (sends js)) × (last_send (is_send k) js ≡ true)
    × (length js < length ks)
first_step here s l e = absurd (omega arith)
first_step {code} {b = b} {n = n} {k = k} (more {k = j} {ks = js} f r) s l e =
    let same : j ≡ k = same-act f e in (
      js,
      subst (λ (m : Machine). Run code m js b) (same-machine f e) r,
      subst (λ (i : Act). suc n ≡ one_send i (sends js)) same s,
      subst (λ (i : Act). last_send (is_send i) js ≡ true) same l,
      omega arith,
    )

pub replay_silent : {code : List Instruction} {a c b : Machine} {n : ℕ} {ks : List Act} {k : Act} → Replay code a (suc n) ks b → Steps code a k c
    → is_send k ≡ false → Replays code c (suc n) b ks
replay_silent {code} {c = c} {b = b} {n = n} {ks = ks} {k = k} h e s =
    let v = first_step h.ran h.sent_so h.sealed e in go k s v.0 v.1 v.2 v.3 v.4
  where
    go : (j : Act) → is_send j ≡ false → (js : List Act) → Run code c js b → suc n ≡ one_send j (sends js) → last_send (is_send j) js ≡ true → length js < length ks
        → Replays code c (suc n) b ks
    go internal s' js r i l w = record { acts = js; fewer = w; replay = record { ran = r; sent_so = i; sealed = last-act js n i true false ∙ l } }
    go (took x) s' js r i l w = record { acts = js; fewer = w; replay = record { ran = r; sent_so = i; sealed = last-act js n i true false ∙ l } }
    go (sent x) s' js r i l w = absurd (no_way (cc))

pub replay_send : {code : List Instruction} {a c b : Machine} {n : ℕ} {x : Mail} {ks : List Act} → Replay code a (suc n) ks b → Steps code a (sent x) c
    → Replays code c n b ks
replay_send h e =
    let v = first_step h.ran h.sent_so h.sealed e in
    let i = v.2 in
    record { acts = v.0; fewer = v.4; replay = record { ran = v.1; sent_so = omega arith; sealed = v.3 } }

-- nothing left to suppress: the machine is the reference one
none_last : (ks : List Act) → 0 ≡ sends ks → last_send false ks ≡ true → ⊥
none_last [] s l = no_way (cc)
none_last (internal ∷ ks) s l = none_last ks s l
none_last (took x ∷ ks) s l = none_last ks s l
none_last (sent x ∷ ks) s l = omega arith

no_run : {code : List Instruction} {a b : Machine} (ks : List Act) → Run code a ks b → 0 ≡ sends ks → last_send true ks ≡ true → a ≡ b
no_run [] here s l = refl
no_run (internal ∷ ks) r s l = absurd (none_last ks s l)
no_run (took x ∷ ks) r s l = absurd (none_last ks s l)
no_run (sent x ∷ ks) r s l = absurd (omega arith)

pub replay_zero : {code : List Instruction} {a b : Machine} {acts : List Act} → Replay code a 0 acts b → a ≡ b
replay_zero {acts = acts} h = no_run acts h.ran h.sent_so h.sealed
