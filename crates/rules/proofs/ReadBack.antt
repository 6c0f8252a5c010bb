-- The answers and the origins that a run writes, read out of their buffers again, are those.
use mathlib.Core.Path.{◌≡◌, refl}
use mathlib.Core.List.{List, [], ◌∷◌, ◌++◌}
use Prim.Native.Nat.{ℕ, ◌/◌, ◌%◌, ◌^◌}
use native.Mathlib.Omega.{arith}
use lib.ListN.{length}
use Rattle.rules.specs.Machine.{Origin}
use Rattle.rules.specs.Moves.{Numbers}
use Rattle.rules.specs.Bytes.{number32, all_bytes}
use Rattle.rules.specs.Run.{answer_bytes, origin_bytes}
use Rattle.rules.specs.Transparency.{read_answers, read_origins}

-- a word's four bytes give the word
pub word_back : (w : ℕ) → number32 (w / 2 ^ 24) (w / 2 ^ 16 % 2 ^ 8) (w / 2 ^ 8 % 2 ^ 8) (w % 2 ^ 8) ≡ w
word_back w = omega arith

-- whatever stands behind the answers
pub answers_back : (l : List Numbers) (behind : List ℕ) → read_answers (length l) (all_bytes answer_bytes l ++ behind) ≡ l
answers_back [] behind = refl
answers_back (n ∷ l) behind = rw (word_back n.word, answers_back l behind)

pub origins_back : (l : List Origin) (behind : List ℕ) → read_origins (length l) (all_bytes origin_bytes l ++ behind) ≡ l
origins_back [] behind = refl
origins_back (o ∷ l) behind = rw (origins_back l behind)
