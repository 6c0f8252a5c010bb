-- The promise of `ks_sweep`: the sweep's, with its number and its three counts in one.
use Rattle.std.specs.Prelude.{List, ℕ, ◌+◌, ◌*◌, ◌/◌, ◌%◌}
use Rattle.rules.specs.Sweep.{Swept}
use Rattle.sweep.specs.Sweeps.{swept_by, Sweeps}
use Rattle.kunzeastylus.specs.Packed.{Packed}

-- number and counts as one number, and out of it again, as a caller takes it apart: sixteen bits each
abbrev pub packed_swept : Swept → ℕ
packed_swept r = r.number + 65536 * r.quiet + 4294967296 * r.held + 281474976710656 * r.free

abbrev pub swept_in : ℕ → Swept
swept_in n = record { number = n % 65536; quiet = n / 65536 % 65536; held = n / 4294967296 % 65536; free = n / 281474976710656 }

-- of any bytes of a table and a schedule
abbrev pub SweepsPacked : List ℕ → List ℕ → ℕ → Type 0
SweepsPacked table schedule n = Packed swept_by packed_swept swept_in (Sweeps table schedule) n
