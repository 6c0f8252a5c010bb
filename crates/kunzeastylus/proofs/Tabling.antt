-- What the writer's calls return, in one number and out of it again.
use Rattle.std.specs.Prelude.{Result, Ok, Err}
use mathlib.Core.Path.{◌≡◌, ap, ◌∙◌}
use mathlib.Core.List.{List}
use Prim.Native.Nat.{ℕ, ◌+◌, ◌*◌, ◌/◌, ◌%◌, ◌<◌}
use native.Mathlib.Omega.{arith}
use Rattle.numbers.specs.Runs.{number_in}
use Rattle.numbers.specs.declared.runs.Refusal.{Refusal}
use Rattle.rules.specs.Encode.{Lists}
use Rattle.apart.specs.declared.Taken.{Taken}
use Rattle.writer.specs.Writes.{Writes}
use Rattle.apart.specs.Taken.{Lent, TakesApart}
use Rattle.kunzeastylus.specs.Tables.{Written, written_by, packed_written, unpacked_written, WritesPacked, Apart, taken_by, packed_taken, unpacked_taken, Small, TakesPacked}
use Rattle.kunzeastylus.proofs.Packing.{keeps_packed}

written_in-packed_written : (r : Written) → r.number < 256 → unpacked_written (packed_written r) ≡ r
written_in-packed_written r h =
    let n = packed_written r in
    let e0 : n % 256 ≡ r.number = omega arith in
    let e1 : n / 4294967296 ≡ r.length = omega arith in
    λ i. record { number = e0 i; length = e1 i }

written_back : (r : Result ℕ Refusal) → number_in r < 256 → unpacked_written (packed_written (written_by r)) ≡ written_by r
written_back (Ok n) small = written_in-packed_written (written_by (Ok n)) small
written_back (Err n) small = written_in-packed_written (written_by (Err n)) small

pub writes_packed : (l : Lists) (out : List ℕ) (r : Result ℕ Refusal) (out' : List ℕ) → Writes l out r out' → {n : ℕ} → number_in r < 256
    → n ≡ packed_written (written_by r) → WritesPacked l out n out'
writes_packed l out r out' h small e = keeps_packed (λ w. Writes l out w out') r h (written_back r small) e

taken_in-packed_taken : (r : Apart) → Small r → unpacked_taken (packed_taken r) ≡ r
taken_in-packed_taken r h =
    let n = packed_taken r in
    let h0 = h.number_fits in
    let h1 = h.boards-fit in
    let h2 = h.processes-fit in
    let h3 = h.channels-fit in
    let h4 = h.instructions-fit in
    -- what is left above each of the four bytes, and above the sixteen bits
    let above0 = r.boards + 256 * r.processes + 65536 * r.channels + 16777216 * r.instructions + 1099511627776 * r.version in
    let above1 = r.processes + 256 * r.channels + 65536 * r.instructions + 4294967296 * r.version in
    let above2 = r.channels + 256 * r.instructions + 16777216 * r.version in
    let above3 = r.instructions + 65536 * r.version in
    let e0 : n % 256 ≡ r.number = omega arith in
    let q0 : n / 256 ≡ above0 = omega arith in
    let q1 : n / 65536 ≡ above1 = omega arith in
    let q2 : n / 16777216 ≡ above2 = omega arith in
    let q3 : n / 4294967296 ≡ above3 = omega arith in
    let b0 : above0 % 256 ≡ r.boards = omega arith in
    let b1 : above1 % 256 ≡ r.processes = omega arith in
    let b2 : above2 % 256 ≡ r.channels = omega arith in
    let b3 : above3 % 65536 ≡ r.instructions = omega arith in
    let e1 : n / 256 % 256 ≡ r.boards = ap (λ (x : ℕ). x % 256) q0 ∙ b0 in
    let e2 : n / 65536 % 256 ≡ r.processes = ap (λ (x : ℕ). x % 256) q1 ∙ b1 in
    let e3 : n / 16777216 % 256 ≡ r.channels = ap (λ (x : ℕ). x % 256) q2 ∙ b2 in
    let e4 : n / 4294967296 % 65536 ≡ r.instructions = ap (λ (x : ℕ). x % 65536) q3 ∙ b3 in
    let e5 : n / 281474976710656 ≡ r.version = omega arith in
    λ i. record { number = e0 i; version = e5 i; boards = e1 i; processes = e2 i; channels = e3 i; instructions = e4 i }

pub takes_packed : (table : List ℕ) (before : Lent) (r : Result Taken Refusal) (after : Lent) → TakesApart table before r after → {n : ℕ}
    → Small (taken_by r) → n ≡ packed_taken (taken_by r) → TakesPacked table before n after
takes_packed table before r after h small e = keeps_packed (λ w. TakesApart table before w after) r h (taken_in-packed_taken (taken_by r) small) e
