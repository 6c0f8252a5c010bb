-- The promises of `ks_label_table` and `ks_label_run`: those of crate label_line, of lent bytes and with three numbers in one.
use Rattle.std.specs.Prelude.{◌≡◌, List, ℕ, Ok}
use Rattle.rules.specs.Run.{Buffers}
use Rattle.label_line.specs.Line.{line_number}
use Rattle.label_line.specs.Labels.{MakesTable, RunsLine}
use Rattle.kunzeastylus.specs.Packed.{VerdictPacked}

-- The table of a first serial, in lent bytes. "46, [..] its only refusal; no table is then made".
pub record MakesInto (first : ℕ) (before : List ℕ) (n : ℕ) (after : List ℕ) : Type 0 where
  pub number_is : n ≡ line_number first
  pub made : n ≡ 0 → MakesTable first (Ok after)
  pub untouched : (n ≡ 0 → ⊥) → after ≡ before

-- The run of a first serial and a schedule.
abbrev pub RunsLinePacked : ℕ → List ℕ → Buffers → ℕ → Buffers → Type 0
RunsLinePacked first schedule before n after = VerdictPacked (λ r. RunsLine first schedule before r after) n
