-- How the code puts the table's bytes together: a frame without instructions, and one instruction after the other.
use Rattle.std.specs.Prelude.{List, [], ◌∷◌, ◌++◌, ℕ, replicate}
use Rattle.std.proofs.lemmas.List.Edits.{sets}
use Rattle.rules.specs.Encode.{instruction_bytes}

-- without the instructions
unfoldable pub frame_bytes : List ℕ
frame_bytes =
    (0 ∷ 82 ∷ 1 ∷ 2 ∷ 2 ∷ 3 ∷ []) ++ ((255 ∷ 0 ∷ []) ++ ((0 ∷ 1 ∷ []) ++ ((1 ∷ 255 ∷ [])
    ++ ((0 ∷ 1 ∷ 7 ∷ []) ++ (replicate 42 0 ++ ((1 ∷ 0 ∷ 4 ∷ []) ++ replicate 24 0))))))

-- with an instruction at a place
unfoldable pub instruction_in : List ℕ → ℕ → ℕ → ℕ → ℕ → List ℕ
instruction_in l at code a operand = sets l at (instruction_bytes code a operand)
