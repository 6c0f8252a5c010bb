-- Lists whose numbers fit their bytes. 254 stands for a number that fits none: it is no end, no board, no code, no register and no limit, so the
-- test that looks at it refuses it as it refuses the number itself (proofs/Fitting.antt).
use Rattle.std.specs.Prelude.{cond, List, [], ◌∷◌, ◌++◌, map, ℕ, ◌+◌, ◌*◌, ◌/◌, ◌%◌, ltb, get_or}
use Rattle.rules.specs.Encode.{Lists, if_limits, records_for}
use Rattle.writer.specs.declared.write.Head.{Head}

abbrev pub fit_byte : ℕ → ℕ
fit_byte x = cond (ltb x 256) x 254

-- code and `a` of each instruction; an operand is a word and always fits
abbrev pub fit_threes : List ℕ → List ℕ
fit_threes [] = []
fit_threes (code ∷ []) = fit_byte code ∷ []
fit_threes (code ∷ a ∷ []) = fit_byte code ∷ fit_byte a ∷ []
fit_threes (code ∷ a ∷ operand ∷ l) = fit_byte code ∷ fit_byte a ∷ operand ∷ fit_threes l

-- version and counts have passed numbers 2 and 3, so they fit
abbrev pub fitted : Lists → Lists
fitted l = record {
  version = l.version;
  boards = l.boards;
  processes = l.processes;
  channels = l.channels;
  ends = map fit_byte l.ends;
  placements = map fit_byte l.placements;
  limits = map fit_byte l.limits;
  instructions = fit_threes l.instructions;
}

-- the head of a table that has so many bytes behind its length
abbrev pub head_bytes : ℕ → Head → List ℕ
head_bytes size head =
    size / 256 % 256 ∷ size % 256
    ∷ fit_byte head.version ∷ fit_byte head.boards ∷ fit_byte head.processes ∷ fit_byte head.channels ∷ []

-- the bytes of process p before its instructions
abbrev pub head_for : Lists → ℕ → List ℕ
head_for l p =
    fit_byte (get_or l.placements (3 * p) 0) ∷ fit_byte (get_or l.placements (3 * p + 1) 0)
    ∷ if_limits l.version (fit_byte (get_or l.limits p 0)) ++ (fit_byte (get_or l.placements (3 * p + 2) 0) ∷ [])

-- all records
abbrev pub records_laid : Lists → List ℕ
records_laid l = records_for l.version l.processes (map fit_byte l.placements) (map fit_byte l.limits) (fit_threes l.instructions)
