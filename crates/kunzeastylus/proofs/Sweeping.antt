-- What a sweep returns, in one number and out of it again.
use Rattle.std.specs.Prelude.{Result, Ok, Err, IfOk}
use mathlib.Core.Path.{◌≡◌, ap, ◌∙◌}
use mathlib.Core.List.{List}
use Prim.Native.Nat.{ℕ, ◌+◌, ◌*◌, ◌/◌, ◌%◌, ◌≤◌, ◌<◌}
use native.Mathlib.Omega.{arith}
use Rattle.numbers.specs.Runs.{number_in}
use Rattle.numbers.specs.declared.runs.Refusal.{Refusal}
use Rattle.rules.specs.Sweep.{Swept}
use Rattle.sweep.specs.Sweeps.{runs_most, swept_by, Sweeps}
use Rattle.sweep.specs.declared.tally.Tally.{Tally}
use Rattle.kunzeastylus.specs.Sweep.{packed_swept, swept_in, SweepsPacked}
use Rattle.kunzeastylus.proofs.Packing.{keeps_packed}

swept_in-packed_swept : (r : Swept) → r.number < 256 → r.quiet + (r.held + r.free) ≤ runs_most → swept_in (packed_swept r) ≡ r
swept_in-packed_swept r small few =
    let n = packed_swept r in
    -- what is left above each sixteen bits
    let above0 = r.quiet + 65536 * r.held + 4294967296 * r.free in
    let above1 = r.held + 65536 * r.free in
    let e0 : n % 65536 ≡ r.number = omega arith in
    let q0 : n / 65536 ≡ above0 = omega arith in
    let q1 : n / 4294967296 ≡ above1 = omega arith in
    let b0 : above0 % 65536 ≡ r.quiet = omega arith in
    let b1 : above1 % 65536 ≡ r.held = omega arith in
    let e1 : n / 65536 % 65536 ≡ r.quiet = ap (λ (x : ℕ). x % 65536) q0 ∙ b0 in
    let e2 : n / 4294967296 % 65536 ≡ r.held = ap (λ (x : ℕ). x % 65536) q1 ∙ b1 in
    let e3 : n / 281474976710656 ≡ r.free = omega arith in
    λ i. record { number = e0 i; quiet = e1 i; held = e2 i; free = e3 i }

back : (r : Result Tally Refusal) → number_in r < 256 → IfOk r (λ x. x.quiet + (x.held + x.free) ≤ runs_most) → swept_in (packed_swept (swept_by r)) ≡ swept_by r
back (Ok x) small few = swept_in-packed_swept (swept_by (Ok x)) small few
back (Err n) small few = swept_in-packed_swept (swept_by (Err n)) small (omega arith)

pub sweeps_packed : (table schedule : List ℕ) (r : Result Tally Refusal) → Sweeps table schedule r
    → IfOk r (λ x. x.quiet + (x.held + x.free) ≤ runs_most) → {n : ℕ} → number_in r < 256 → n ≡ packed_swept (swept_by r) → SweepsPacked table schedule n
sweeps_packed table schedule r h few small e = keeps_packed (Sweeps table schedule) r h (back r small few) e
