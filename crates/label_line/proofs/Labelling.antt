-- From demand 3 to labels: a run whose words are those of a plain run of the label line's table.
use mathlib.Core.Path.{◌≡◌, ap, sym, ◌∙◌, subst}
use mathlib.Core.Bool.{Bool, true, false, cond, ◌&&◌}
use mathlib.Core.List.{List, [], ◌∷◌, IsPrefix}
use Prim.Native.Nat.{ℕ, suc, ◌+◌, ◌^◌, ◌≤◌, ◌<◌}
use native.Mathlib.Omega.{arith}
use lib.Dec.{eqb}
use lib.ListN.{length, length-map}
use Rattle.rules.specs.Machine.{Mail, Origin, BusWord, Machine}
use Rattle.rules.specs.Moves.{Command, Numbers}
use Rattle.rules.specs.Schedule.{commands_most}
use Rattle.rules.specs.Undo.{Noted, standing, commands_of, answers_of}
use Rattle.rules.specs.Transparent.{Transparent, without_origins, fed_of, bus_order, fed_in}
use Rattle.rules.proofs.Standing.{standing-length}
use Rattle.rules.proofs.BusWords.{words_stand}
use Rattle.label_line.specs.Line.{serial_most, scanner, outlet, line_table}
use Rattle.label_line.specs.Outlet.{labels, words_on, cartons, at_outlet, serials, in_a_row}
use Rattle.label_line.specs.Labels.{Labelled}
use Rattle.label_line.proofs.Sequences.{length-words_on, word_labels, word_labels_labels}
use Rattle.label_line.proofs.Serials.{serials_in_a_row, in_a_row_apart}
use Rattle.label_line.proofs.Plain.{PlainLine, plain_line, plain_begins, plain_ends}

-- no more is fed than there are answers
length-fed_of : (commands : List Command) (answers : List Numbers) → length (fed_of commands answers) ≤ length answers
unfolding fed_of
length-fed_of [] answers = omega arith
length-fed_of (r ∷ rs) [] = omega arith
length-fed_of (r ∷ rs) (n ∷ l) = go (eqb r.move 4 && eqb n.code 4) (length-fed_of rs l)
  where
    go : (b : Bool) → length (fed_of rs l) ≤ length l
        → length (cond b (record { channel = r.a; word = r.word } ∷ fed_of rs l) (fed_of rs l)) ≤ suc (length l)
    go true h = omega arith
    go false h = omega arith

-- of the records that stand (W-214), no more than were answered
length-fed_in : (commands : List Command) (answers : List Numbers) (origins : List Origin) → length (fed_in commands answers origins) ≤ length answers
length-fed_in commands answers origins =
    let l = standing commands answers origins in
    let a = length-fed_of (commands_of l) (answers_of l) in
    let b = length-map l (λ (x : Noted). x.answer) in
    let c = standing-length commands answers origins in
    omega arith

module _ (first : ℕ) (small : first ≤ serial_most) (commands : List Command) (answers : List Numbers) (origins : List Origin) (quiet : Bool)
    (few : length answers ≤ commands_most) (machines : List Machine)
    (x : Transparent (line_table first) (fed_in commands answers origins) (bus_order commands answers origins) quiet machines) where
  fits : first + length (cartons commands answers origins) < 2 ^ 32
  fits = omega (arith, length-words_on scanner (fed_in commands answers origins), length-fed_in commands answers origins)

  plain : PlainLine first (cartons commands answers origins) x.end
  plain =
      subst (λ (l : List Mail). PlainLine first (words_on scanner l) x.end) x.injected
      (plain_line first (omega arith) x.actions x.end x.ran)

  -- the labels are channel and word alone
  printed_is : words_on outlet (without_origins x.end.trace) ≡ at_outlet commands answers origins
  printed_is =
      ap (λ (l : List BusWord). words_on outlet (without_origins l)) x.same-trace ∙ ap (words_on outlet) (words_stand commands answers origins)

  labels_are : word_labels first (cartons commands answers origins) ≡ labels first (cartons commands answers origins)
  labels_are = word_labels_labels first (cartons commands answers origins) (omega (arith, fits))

  begins : IsPrefix (at_outlet commands answers origins) (labels first (cartons commands answers origins))
  begins = rw (← printed_is, ← labels_are) (plain_begins first (cartons commands answers origins) x.end plain)

  row : serials (at_outlet commands answers origins) ≡ in_a_row first (length (serials (at_outlet commands answers origins)))
  row = serials_in_a_row first (cartons commands answers origins) (at_outlet commands answers origins) begins

  pub labelled : Labelled first commands answers origins quiet
  labelled = record {
    beginning = begins;
    all_printed = λ q. sym printed_is ∙ plain_ends first (cartons commands answers origins) x.end plain (x.no_step q) ∙ labels_are;
    in_a_row = row;
    no_repeat = in_a_row_apart first (serials (at_outlet commands answers origins)) row;
    no_wrap = fits;
  }
