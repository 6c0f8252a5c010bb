-- More than one number in one, and the promise of `ks_run`: the run's, with its three in one. Document 01: "An accepted run returns 0, its number of
-- records, and whether it ended quiet."
use Rattle.std.specs.Prelude.{◌≡◌, Bool, false, cond, List, ℕ, ◌+◌, ◌*◌, ◌/◌, ◌%◌, eqb, Result, Ok, Err}
use Rattle.numbers.specs.Runs.{number_of}
use Rattle.numbers.specs.declared.runs.Refusal.{Refusal}
use Rattle.rules.specs.Run.{Buffers}
use Rattle.cabinet.specs.Runs.{Runs}
use Rattle.cabinet.specs.declared.run.Ended.{Ended}
use Rattle.kunzeastylus.specs.declared.run.Verdict.{Verdict}

-- What a call promises that returns its values in one number, where the call below it promises a result. `values` are those that stand for a
-- result, 0 first or the number of a refusal; `pack` makes one number of them, and `unpack` takes them out of it again, as a caller does.
pub record Packed {R V : Type 0} (values : R → V) (pack : V → ℕ) (unpack : ℕ → V) (promised : R → Type 0) (n : ℕ) : Type 0 where
  -- the number is the values that are in it and nothing else: every other bit is 0
  pub exact : n ≡ pack (unpack n)
  -- and they are those of what the call below returned, which keeps its promise
  pub returned : R
  pub unpacked : unpack n ≡ values returned
  pub keeps : promised returned

-- ---- the run

-- number, records and quiet: of a run that is refused its number, 0 and false
abbrev pub verdict_of : Result Ended Refusal → Verdict
verdict_of (Ok e) = record { number = 0; records = e.records; quiet = e.quiet }
verdict_of (Err r) = record { number = number_of r; records = 0; quiet = false }

abbrev pub flag_of : Bool → ℕ
flag_of b = cond b 1 0

-- number, quiet and records as one number
abbrev pub packed_of : Verdict → ℕ
packed_of r = r.number + 256 * flag_of r.quiet + 4294967296 * r.records

-- and out of it again, as a caller takes it apart: bits 0 to 7, bit 8, and bits 32 on
abbrev pub verdict_in : ℕ → Verdict
verdict_in n = record { number = n % 256; records = n / 4294967296; quiet = eqb (n / 256 % 2) 1 }

-- what a call promises of the three
abbrev pub VerdictPacked : (Result Ended Refusal → Type 0) → ℕ → Type 0
VerdictPacked promised n = Packed verdict_of packed_of verdict_in promised n

-- of any bytes of a table and a schedule, and buffers of any length, these before it, those after it: the run's promise, the rules' outcome
-- and demand 3
abbrev pub RunsPacked : List ℕ → List ℕ → Buffers → ℕ → Buffers → Type 0
RunsPacked table schedule before n after = VerdictPacked (λ r. Runs table schedule before r after) n
