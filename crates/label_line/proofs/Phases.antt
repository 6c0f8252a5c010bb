-- Where each of the two programs stands: seven places and four, each with the registers, the words taken so far and those sent so far;
-- and the plain cabinet of the label line in these terms.
use mathlib.Core.Path.{◌≡◌}
use mathlib.Core.List.{List, [], ◌∷◌, ◌++◌}
use Prim.Native.Nat.{ℕ, ◌+◌}
use lib.ListN.{length}
use Rattle.rules.specs.Machine.{BusWord}
use Rattle.rules.specs.Reference.{Reference}
use Rattle.rules.specs.Transparent.{without_origins}
use Rattle.label_line.specs.Line.{scanner, printer, outlet}
use Rattle.label_line.specs.Outlet.{words_on}
use Rattle.label_line.proofs.Sequences.{on_channel, word, word_labels}

-- ---- the numbering program

-- By its place. The list has the codes of the cartons before the one in hand, which all have their labels; the number is the code in
-- hand, at `waiting` the one before.
pub data Numbering : Type 0 where
  starting unserialled : Numbering
  waiting coded code-sent serial_sent raised : List ℕ → ℕ → Numbering

abbrev pub numbering_place : Numbering → ℕ
numbering_place starting = 0
numbering_place unserialled = 1
numbering_place (waiting done c) = 2
numbering_place (coded done c) = 3
numbering_place (code-sent done c) = 4
numbering_place (serial_sent done c) = 5
numbering_place (raised done c) = 6

abbrev pub numbering_registers : ℕ → Numbering → List ℕ
numbering_registers first starting = 0 ∷ 0 ∷ 0 ∷ 0 ∷ []
numbering_registers first unserialled = 0 ∷ first ∷ 0 ∷ 0 ∷ []
numbering_registers first (waiting done c) = c ∷ word (first + length done) ∷ 1 ∷ 0 ∷ []
numbering_registers first (coded done c) = c ∷ word (first + length done) ∷ 1 ∷ 0 ∷ []
numbering_registers first (code-sent done c) = c ∷ word (first + length done) ∷ 1 ∷ 0 ∷ []
numbering_registers first (serial_sent done c) = c ∷ word (first + length done) ∷ 1 ∷ 0 ∷ []
numbering_registers first (raised done c) = c ∷ word (first + length (done ++ (c ∷ []))) ∷ 1 ∷ 0 ∷ []

-- the cartons taken
abbrev pub cartons_taken : Numbering → List ℕ
cartons_taken starting = []
cartons_taken unserialled = []
cartons_taken (waiting done c) = done
cartons_taken (coded done c) = done ++ (c ∷ [])
cartons_taken (code-sent done c) = done ++ (c ∷ [])
cartons_taken (serial_sent done c) = done ++ (c ∷ [])
cartons_taken (raised done c) = done ++ (c ∷ [])

-- the words sent to the printer program
abbrev pub words_numbered : ℕ → Numbering → List ℕ
words_numbered first starting = []
words_numbered first unserialled = []
words_numbered first (waiting done c) = word_labels first done
words_numbered first (coded done c) = word_labels first done
words_numbered first (code-sent done c) = word_labels first done ++ (c ∷ [])
words_numbered first (serial_sent done c) = word_labels first (done ++ (c ∷ []))
words_numbered first (raised done c) = word_labels first (done ++ (c ∷ []))

-- instructions before the next take
abbrev pub numbering_left : Numbering → ℕ
numbering_left starting = 2
numbering_left unserialled = 1
numbering_left (waiting done c) = 0
numbering_left (coded done c) = 4
numbering_left (code-sent done c) = 3
numbering_left (serial_sent done c) = 2
numbering_left (raised done c) = 1

-- ---- the printer program

-- By its place. The list has the words handed on before the one in hand.
pub data Printing : Type 0 where
  resting : Printing
  listening holding handed : List ℕ → ℕ → Printing

abbrev pub printing_place : Printing → ℕ
printing_place resting = 0
printing_place (listening done w) = 1
printing_place (holding done w) = 2
printing_place (handed done w) = 3

abbrev pub printing_registers : Printing → List ℕ
printing_registers resting = 0 ∷ 0 ∷ 0 ∷ 0 ∷ []
printing_registers (listening done w) = w ∷ 1 ∷ 0 ∷ 0 ∷ []
printing_registers (holding done w) = w ∷ 1 ∷ 0 ∷ 0 ∷ []
printing_registers (handed done w) = w ∷ 1 ∷ 0 ∷ 0 ∷ []

-- the words taken
abbrev pub words_taken : Printing → List ℕ
words_taken resting = []
words_taken (listening done w) = done
words_taken (holding done w) = done ++ (w ∷ [])
words_taken (handed done w) = done ++ (w ∷ [])

-- the words sent to the outlet
abbrev pub words_handed : Printing → List ℕ
words_handed resting = []
words_handed (listening done w) = done
words_handed (holding done w) = done
words_handed (handed done w) = done ++ (w ∷ [])

abbrev pub printing_left : Printing → ℕ
printing_left resting = 1
printing_left (listening done w) = 0
printing_left (holding done w) = 2
printing_left (handed done w) = 1

-- ---- both, with what is unread and the bus order

pub record Line : Type 0 where
  pub numbering : Numbering
  -- cartons not yet taken
  pub unread : List ℕ
  pub printing : Printing
  -- words to the printer program not yet taken
  pub pending : List ℕ
  pub bus : List BusWord

abbrev pub state_of : ℕ → Line → Reference
state_of first l = record {
  machines =
      record { registers = numbering_registers first l.numbering; pc = numbering_place l.numbering; mailbox = on_channel scanner l.unread }
      ∷ record { registers = printing_registers l.printing; pc = printing_place l.printing; mailbox = on_channel printer l.pending }
      ∷ [];
  trace = l.bus;
}

-- what the words have to do with each other, once these cartons were fed
pub record Lines (first : ℕ) (fed : List ℕ) (l : Line) : Type 0 where
  pub fed_are : fed ≡ cartons_taken l.numbering ++ l.unread
  pub sent_are : words_numbered first l.numbering ≡ words_taken l.printing ++ l.pending
  pub printed_are : words_on outlet (without_origins l.bus) ≡ words_handed l.printing
