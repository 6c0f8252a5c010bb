-- The table of any first serial: its bytes as the code makes them, what they say, and that the reader accepts them.
use Rattle.std.specs.Prelude.{Ok, Err}
use mathlib.Core.Path.{◌≡◌, refl, ap, ◌∙◌}
use mathlib.Core.List.{List}
use Prim.Native.Nat.{ℕ, ◌^◌, ◌≤◌, ◌<◌}
use borrow.Author.Tests.{le-leb, lt-leb}
use Rattle.numbers.specs.declared.runs.Refusal.TheVariants.{FirstSerial}
use Rattle.rules.specs.Format.{decode_table, validate_table}
use Rattle.rules.specs.Encode.{encode, validate_lists}
use Rattle.rules.proofs.ReadBack.{word_back}
use Rattle.label_line.specs.Line.{serial_most, line_table, line_lists, line_bytes}
use Rattle.label_line.specs.Puts.{frame_bytes, instruction_in}
use Rattle.label_line.specs.Labels.{MakesTable}
use Rattle.label_line.proofs.Spacing.{takes_often}

-- the two programs, instruction by instruction
abbrev pub numbering_in : ℕ → List ℕ → List ℕ
numbering_in first l =
    instruction_in (instruction_in (instruction_in (instruction_in (instruction_in (instruction_in (instruction_in l 15 1 1 first) 21 1 2 1) 27 3 0 0) 33 5 0 1)
    39 5 1 1) 45 2 1 2) 51 6 2 2

abbrev pub printing_in : List ℕ → List ℕ
printing_in l = instruction_in (instruction_in (instruction_in (instruction_in l 60 1 1 1) 66 3 0 1) 72 5 0 2) 78 6 1 1

pub line_made : (first : ℕ) → printing_in (numbering_in first frame_bytes) ≡ line_bytes first
unfolding instruction_in frame_bytes line_bytes
line_made first = refl

pub line_decoded : (first : ℕ) → decode_table (line_bytes first) ≡ line_table first
unfolding decode_table line_bytes
line_decoded first = rw (word_back first)

line-written : (first : ℕ) → line_bytes first ≡ encode (line_lists first)
unfolding line_bytes
line-written first = refl

line-writable : (first : ℕ) → validate_lists (line_lists first) ≡ 0
unfolding validate_lists
line-writable first = refl

pub line-valid : (first : ℕ) → validate_table (line_bytes first) ≡ 0
unfolding validate_table line_bytes
line-valid first = refl

-- ---- the call

pub makes : (first : ℕ) → first < 2 ^ 32 → first ≤ serial_most → {bytes : List ℕ} → bytes ≡ line_bytes first → MakesTable first (Ok bytes)
makes first word small e =
    let decoded : decode_table _ ≡ line_table first = ap decode_table e ∙ line_decoded first in
    record {
      number_is = rw (le-leb first serial_most small);
      made = record {
        bytes_are = e;
        writable = line-writable first;
        written = e ∙ line-written first;
        accepted = ap validate_table e ∙ line-valid first;
        says = decoded;
        takes_often = rw decoded (takes_often first word);
      };
    }

pub refuses : (first : ℕ) → serial_most < first → MakesTable first (Err FirstSerial)
refuses first high = record { number_is = rw (lt-leb first serial_most high); made = tt }
