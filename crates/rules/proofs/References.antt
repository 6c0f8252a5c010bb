-- Runs of the reference machine: one after another, and the silent steps of one process in a row.
use mathlib.Core.Path.{◌≡◌, refl, ap, ◌∙◌}
use mathlib.Core.Bool.{false}
use mathlib.Core.Option.{Option, none, some}
use mathlib.Core.List.{List, [], ◌∷◌, ◌++◌}
use Prim.Native.Nat.{ℕ, ◌<◌}
use lib.ListN.{length, length-set}
use lib.Seq.{get_or-set_same, set-set, set-get_or}
use borrow.Author.Tests.{lt-ltb}
use Rattle.facts.specs.Tests.{no_way}
use Rattle.rules.specs.Table.{Table, Instruction, code_of}
use Rattle.rules.specs.Machine.{Mail, sent_from, Machine, booted, Act, internal, took, sent, moved}
use Rattle.rules.specs.Reference.{Reference, Action, inject, step, posted, with_machine, stepped, act, and_then, reference_run, injections}
use Rattle.rules.proofs.Steps.{Steps}
use Rattle.rules.proofs.Runs.{Run, here, more, is_send, Silent}
use Rattle.rules.proofs.Invariant.{machine_at}

-- ---- one run after another

pub run_append : (t : Table) (s : Reference) (l r : List Action) (e : Reference) → reference_run t s l ≡ some e → reference_run t s (l ++ r) ≡ reference_run t e r
unfolding reference_run
run_append t s [] r e h = let same : s ≡ e = cc in rw same
run_append t s (x ∷ l) r e h = go (act t s x) (λ u. run_append t u l r e) h
  where
    go : (o : Option Reference) → ((u : Reference) → reference_run t u l ≡ some e → reference_run t u (l ++ r) ≡ reference_run t e r)
        → and_then o (λ u. reference_run t u l) ≡ some e → and_then o (λ u. reference_run t u (l ++ r)) ≡ reference_run t e r
    go none ih g = absurd (no_way (cc))
    go (some u) ih g = ih u g

pub run_one : (t : Table) (s : Reference) (x : Action) (e : Reference) → act t s x ≡ some e → reference_run t s (x ∷ []) ≡ some e
unfolding reference_run
run_one t s x e h = rw h

pub injections_append : (l r : List Action) → injections (l ++ r) ≡ injections l ++ injections r
unfolding injections
injections_append [] r = refl
injections_append (inject x ∷ l) r = ap (λ (z : List Mail). x ∷ z) (injections_append l r)
injections_append (step p ∷ l) r = injections_append l r

-- as many steps of process p as there are acts
abbrev pub steps : ℕ → List Act → List Action
steps p [] = []
steps p (k ∷ ks) = step p ∷ steps p ks

pub injections-steps : (p : ℕ) (ks : List Act) → injections (steps p ks) ≡ []
unfolding injections
injections-steps p [] = refl
injections-steps p (k ∷ ks) = injections-steps p ks

-- ---- a step of process p

module _ (t : Table) (s : Reference) (p : ℕ) (hp : p < length s.machines) where
  act-step : {m : Machine} {k : Act} → Steps (code_of t p) (machine_at s p) k m → act t s (step p) ≡ stepped t s p (moved m k)
  unfolding act
  act-step e = rw (lt-ltb p (length s.machines) hp, e.is)

  act_silent : (m : Machine) (k : Act) → Steps (code_of t p) (machine_at s p) k m → is_send k ≡ false → act t s (step p) ≡ some (with_machine p m s)
  unfolding stepped
  act_silent m internal e h = act-step e
  act_silent m (took x) e h = act-step e
  act_silent m (sent x) e h = absurd (no_way (cc))

  pub act-sent : {m : Machine} {x : Mail} → Steps (code_of t p) (machine_at s p) (sent x) m → act t s (step p)
      ≡ some (posted t (sent_from p (machine_at s p).pc x) (with_machine p m s))
  unfolding stepped
  act-sent e = act-step e

-- ---- storing a machine

module _ (p : ℕ) (m : Machine) (s : Reference) where
  pub put_put : (n : Machine) → with_machine p n (with_machine p m s) ≡ with_machine p n s
  unfolding with_machine
  put_put n = rw (set-set s.machines p m n)

  pub put_get : p < length s.machines → machine_at (with_machine p m s) p ≡ m
  unfolding with_machine
  put_get h = get_or-set_same s.machines p m booted h

  pub put_length : length (with_machine p m s).machines ≡ length s.machines
  unfolding with_machine
  put_length = length-set s.machines p m

  pub put_same : machine_at s p ≡ m → s ≡ with_machine p m s
  unfolding with_machine
  put_same e = rw (← e) (rw (set-get_or s.machines p booted))

-- ---- silent steps in a row

pub run_silent : (t : Table) (p : ℕ) {code : List Instruction} {a b : Machine} {ks : List Act} → Run code a ks b → code ≡ code_of t p → Silent ks → (s : Reference)
    → p < length s.machines → machine_at s p ≡ a → reference_run t s (steps p ks) ≡ some (with_machine p b s)
unfolding reference_run
run_silent t p {a = a} here is_code h s hp e = ap some (put_same p a s e)
run_silent t p {code = code} {b = b} (more {m1 = m1} {k = k} f r) is_code h s hp e =
    let g : Steps (code_of t p) (machine_at s p) k m1 = rw (e, ← is_code) f in
    rw (act_silent t s p hp m1 k g h.0)
    (run_silent t p r is_code h.1 (with_machine p m1 s) (rw put_length hp) (put_get p m1 s hp) ∙ ap some (put_put p m1 s b))
