-- Computed cases for the writer's bytes: lists of numbers, and the table that they give.
use mathlib.Core.Path.{◌≡◌, refl}
use mathlib.Core.List.{List, [], ◌∷◌}
use Prim.Native.Nat.{ℕ}
use Rattle.rules.specs.Encode.{Lists, encode}
use Rattle.rules.proofs.Cases.{Case, case, given, said}
use Rattle.rules.proofs.Marked.{sample}

-- document 01's sample
abbrev sample_lists : Lists
sample_lists = record {
  version = 1;
  boards = 2;
  processes = 1;
  channels = 2;
  ends = 255 ∷ 0 ∷ 0 ∷ 255 ∷ [];
  placements = 0 ∷ 1 ∷ 4 ∷ [];
  limits = [];
  instructions = 3 ∷ 0 ∷ 0 ∷ 2 ∷ 1 ∷ 0 ∷ 5 ∷ 1 ∷ 1 ∷ 6 ∷ 0 ∷ 0 ∷ [];
}

-- two processes, with one instruction and with two; the operand 0x01020304
abbrev two_lists : ℕ → List ℕ → Lists
two_lists version limits = record {
  version = version;
  boards = 3;
  processes = 2;
  channels = 1;
  ends = 255 ∷ 1 ∷ [];
  placements = 0 ∷ 1 ∷ 1 ∷ 2 ∷ 0 ∷ 2 ∷ [];
  limits = limits;
  instructions = 1 ∷ 3 ∷ 0x01020304 ∷ 3 ∷ 0 ∷ 0 ∷ 6 ∷ 0 ∷ 2 ∷ [];
}

abbrev pub encodings : List Case
encodings =
    case (encode sample_lists ∷ []) (sample ∷ [])
    ∷ case (encode (two_lists 1 []) ∷ [])
    ((0 ∷ 30 ∷ 1 ∷ 3 ∷ 2 ∷ 1 ∷ 255 ∷ 1
    ∷ 0 ∷ 1 ∷ 1 ∷ 1 ∷ 3 ∷ 1 ∷ 2 ∷ 3 ∷ 4
    ∷ 2 ∷ 0 ∷ 2 ∷ 3 ∷ 0 ∷ 0 ∷ 0 ∷ 0 ∷ 0 ∷ 6 ∷ 0 ∷ 0 ∷ 0 ∷ 0 ∷ 2 ∷ [])
    ∷ [])
    -- W-207: "a limit byte, 1 to 16, between the backup board and n"
    ∷ case (encode (two_lists 2 (2 ∷ 16 ∷ [])) ∷ [])
    ((0 ∷ 32 ∷ 2 ∷ 3 ∷ 2 ∷ 1 ∷ 255 ∷ 1
    ∷ 0 ∷ 1 ∷ 2 ∷ 1 ∷ 1 ∷ 3 ∷ 1 ∷ 2 ∷ 3 ∷ 4
    ∷ 2 ∷ 0 ∷ 16 ∷ 2 ∷ 3 ∷ 0 ∷ 0 ∷ 0 ∷ 0 ∷ 0 ∷ 6 ∷ 0 ∷ 0 ∷ 0 ∷ 0 ∷ 2 ∷ [])
    ∷ [])
    ∷ []

pub encodings_hold : given encodings ≡ said encodings
unfolding encode
encodings_hold = refl
