-- The public call's promise: number and list are those of the definition.
use Rattle.std.specs.Prelude.{◌≡◌, List, ℕ}
use Rattle.layout.specs.View.{viewed_of, viewed}

-- A view of any bytes of a table and a schedule, to a list of any length: this before it, that after it. Refused with the lowest number that
-- applies and nothing written, or 0 and the view at the list's front, the numbers beyond it untouched.
abbrev pub Views : List ℕ → List ℕ → List ℕ → ℕ → List ℕ → Type 0
Views table schedule before number after = viewed_of number after ≡ viewed table schedule before
