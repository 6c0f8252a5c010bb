-- The label line's table (document 02, W-203): "one scanner, one numbering program and one printer program on two boards".
use Rattle.std.specs.Prelude.{List, [], ◌∷◌, ℕ, leb}
use Rattle.rules.specs.Sizes.{limit_before}
use Rattle.rules.specs.Table.{environment, Instruction, SET, ADD, TAKE, SEND, JUMP, Table}
use Rattle.rules.specs.Format.{or_number}
use Rattle.rules.specs.Encode.{Lists, encode}

-- "46, a first serial above 4,294,957,295, its only refusal": a schedule feeds at most 10,000 cartons, so no serial passes 2^32 - 1
abbrev pub serial_most : ℕ
serial_most = 4294957295

abbrev pub line_number : ℕ → ℕ
line_number first = or_number (leb first serial_most) 46 0

-- "The channels are 0 from the scanner, 1 to the printer program and 2, the outlet."
abbrev pub scanner : ℕ
scanner = 0

abbrev pub printer : ℕ
printer = 1

abbrev pub outlet : ℕ
outlet = 2

-- ---- what the table says

-- Process 0: register 1 is the next serial, register 2 is 1, register 0 the carton's code. "For every carton fed, the outlet gets the
-- carton's code and then the next serial."
abbrev pub numbering_program : ℕ → List Instruction
numbering_program first = SET 1 first ∷ SET 2 1 ∷ TAKE 0 scanner ∷ SEND 0 printer ∷ SEND 1 printer ∷ ADD 1 2 ∷ JUMP 2 2 ∷ []

-- Process 1 hands on word by word: register 1 is 1, register 0 the word.
abbrev pub printer_program : List Instruction
printer_program = SET 1 1 ∷ TAKE 0 printer ∷ SEND 0 outlet ∷ JUMP 1 1 ∷ []

abbrev pub line_table : ℕ → Table
line_table first = record {
  boards = 2;
  channels =
      record { sender = environment; reader = 0 }
      ∷ record { sender = 0; reader = 1 }
      ∷ record { sender = 1; reader = environment }
      ∷ [];
  -- "The numbering program, process 0, runs on board 0 with its stand-by on board 1, the printer program, process 1, the other way round."
  processes =
      record { primary = 0; standby = 1; limit = limit_before; code = numbering_program first }
      ∷ record { primary = 1; standby = 0; limit = limit_before; code = printer_program }
      ∷ [];
}

-- ---- the table's bytes

-- the lists of numbers from which the writer of W-201 makes them
abbrev pub line_lists : ℕ → Lists
line_lists first = record {
  version = 1;
  boards = 2;
  processes = 2;
  channels = 3;
  ends = 255 ∷ 0 ∷ 0 ∷ 1 ∷ 1 ∷ 255 ∷ [];
  placements = 0 ∷ 1 ∷ 7 ∷ 1 ∷ 0 ∷ 4 ∷ [];
  limits = [];
  instructions =
      1 ∷ 1 ∷ first ∷ 1 ∷ 2 ∷ 1 ∷ 3 ∷ 0 ∷ 0 ∷ 5 ∷ 0 ∷ 1 ∷ 5 ∷ 1 ∷ 1 ∷ 2 ∷ 1 ∷ 2 ∷ 6 ∷ 2 ∷ 2
      ∷ 1 ∷ 1 ∷ 1 ∷ 3 ∷ 0 ∷ 1 ∷ 5 ∷ 0 ∷ 2 ∷ 6 ∷ 1 ∷ 1 ∷ [];
}

unfoldable pub line_bytes : ℕ → List ℕ
unfolding encode
line_bytes first = encode (line_lists first)
