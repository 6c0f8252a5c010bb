-- What an exported call returns in one number, out of it again: any values, and those of a run.
use Rattle.std.specs.Prelude.{Result, Ok, Err, IfOk}
use mathlib.Core.Path.{◌≡◌, ap, sym, ◌∙◌}
use mathlib.Core.Bool.{Bool, true, false}
use mathlib.Core.List.{List}
use Prim.Native.Nat.{ℕ, ◌+◌, ◌*◌, ◌/◌, ◌%◌, ◌≤◌, ◌<◌}
use native.Mathlib.Omega.{arith}
use lib.Dec.{eqb}
use borrow.Author.Tests.{eq-eqb, ne_eqb}
use Rattle.numbers.specs.Runs.{number_in}
use Rattle.numbers.specs.declared.runs.Refusal.{Refusal}
use Rattle.rules.specs.Run.{Buffers, Ran}
use Rattle.rules.specs.Schedule.{commands_most}
use Rattle.cabinet.specs.Runs.{ran_by, Runs}
use Rattle.cabinet.specs.declared.run.Ended.{Ended}
use Rattle.cabinet.proofs.Running.{run-few}
use Rattle.kunzeastylus.specs.declared.run.Verdict.{Verdict}
use Rattle.kunzeastylus.specs.Packed.{Packed, verdict_of, flag_of, packed_of, verdict_in, VerdictPacked}

-- where what is packed comes out of the number again, the number that is packed has what was promised of it
pub keeps_packed : {R V : Type 0} {values : R → V} {pack : V → ℕ} {unpack : ℕ → V} (promised : R → Type 0) (r : R) → promised r
    → unpack (pack (values r)) ≡ values r → {n : ℕ} → n ≡ pack (values r) → Packed values pack unpack promised n
keeps_packed {pack = pack} {unpack = unpack} promised r h back e =
    let same = ap unpack e ∙ back in
    record { exact = e ∙ ap pack (sym same); returned = r; unpacked = same; keeps = h }

-- ---- the run

quiet_back : (number records : ℕ) → number < 256 → (quiet : Bool) → eqb ((number + 256 * flag_of quiet + 4294967296 * records) / 256 % 2) 1 ≡ quiet
quiet_back number records h true = eq-eqb ((number + 256 * 1 + 4294967296 * records) / 256 % 2) 1 (omega arith)
quiet_back number records h false = ne_eqb ((number + 256 * 0 + 4294967296 * records) / 256 % 2) 1 (λ e. omega arith)

number_back : (number records : ℕ) → number < 256 → (quiet : Bool) → (number + 256 * flag_of quiet + 4294967296 * records) % 256 ≡ number
number_back number records h true = omega arith
number_back number records h false = omega arith

records_back : (number records : ℕ) → number < 256 → (quiet : Bool) → (number + 256 * flag_of quiet + 4294967296 * records) / 4294967296 ≡ records
records_back number records h true = omega arith
records_back number records h false = omega arith

verdict_in-packed_of : (v : Verdict) → v.number < 256 → verdict_in (packed_of v) ≡ v
verdict_in-packed_of v h i = record {
  number = number_back v.number v.records h v.quiet i;
  records = records_back v.number v.records h v.quiet i;
  quiet = quiet_back v.number v.records h v.quiet i;
}

number_small : (r : Result Ended Refusal) → number_in r < 256 → (verdict_of r).number < 256
number_small (Ok e) h = h
number_small (Err n) h = h

pub verdict_packed : (promised : Result Ended Refusal → Type 0) (r : Result Ended Refusal) → promised r → number_in r < 256 → {n : ℕ}
    → n ≡ packed_of (verdict_of r) → VerdictPacked promised n
verdict_packed promised r h small e = keeps_packed promised r h (verdict_in-packed_of (verdict_of r) (number_small r small)) e

-- with as many records as the rules' run
pub few_by : (r : Result Ended Refusal) (after : Buffers) → (ran_by r after).records ≤ commands_most → IfOk r (λ e. e.records ≤ commands_most)
few_by (Ok e) after h = h
few_by (Err n) after h = tt

pub few : (table schedule : List ℕ) (before : Buffers) (r : Result Ended Refusal) (after : Buffers) → Runs table schedule before r after
    → IfOk r (λ e. e.records ≤ commands_most)
few table schedule before r after h = few_by r after (rw (ap (λ (x : Ran). x.records) h.ran) (run-few table schedule before))
