-- A table of version 1 means what it meant: what is read from it is what document 01 alone says, with limit 8.
use mathlib.Core.Path.{◌≡◌, refl}
use mathlib.Core.List.{List, ◌∷◌, map}
use Prim.Native.Nat.{ℕ, zero, suc, ◌+◌, ◌*◌}
use lib.ListN.{drop}
use Rattle.rules.specs.Bytes.{byte_at}
use Rattle.rules.specs.Format.{version_in, processes_in, record_bytes, rests, placement_in, decode_table}
use Rattle.rules.specs.FirstVersion.{rests_before, placement_before, table_before}

placements-before : (n : ℕ) (rest : List ℕ) → map (placement_in 1) (rests 1 n rest) ≡ map placement_before (rests_before n rest)
placements-before zero rest = refl
placements-before (suc n) rest = λ i. placement_before rest ∷ placements-before n (drop (3 + 6 * byte_at rest 2) rest) i

pub first-version : (bytes : List ℕ) → version_in bytes ≡ 1 → decode_table bytes ≡ table_before bytes
unfolding decode_table
first-version bytes e = rw e (rw (placements-before (processes_in bytes) (record_bytes bytes)))
