-- What a customer of the label line sees: the cartons fed, the sequence that they call for, and the words at the outlet.
use Rattle.std.specs.Prelude.{cond, List, [], ◌∷◌, ℕ, zero, suc, eqb}
use Rattle.rules.specs.Machine.{Mail, Origin}
use Rattle.rules.specs.Moves.{Numbers, Command}
use Rattle.rules.specs.Transparent.{word_order, fed_in}
use Rattle.label_line.specs.Line.{scanner, outlet}

-- "For every carton fed, the outlet gets the carton's code and then the next serial": the first carton's is the first serial itself
unfoldable pub labels : ℕ → List ℕ → List ℕ
labels first [] = []
labels first (code ∷ codes) = code ∷ first ∷ labels (suc first) codes

-- the words of a list of messages that are on one channel, in order
unfoldable pub words_on : ℕ → List Mail → List ℕ
words_on k [] = []
words_on k (x ∷ l) =
    let others = words_on k l in
    cond (eqb k x.channel) (x.word ∷ others) others

-- the codes of the cartons fed: the feeds of the scanner's channel that were answered 4. W-214: "feeds taken back don't count as fed"
abbrev pub cartons : List Command → List Numbers → List Origin → List ℕ
cartons commands answers origins = words_on scanner (fed_in commands answers origins)

-- the outlet's words: the answers 4 on the outlet's channel. W-214: "Words carried by a record taken back don't count"
abbrev pub at_outlet : List Command → List Numbers → List Origin → List ℕ
at_outlet commands answers origins = words_on outlet (word_order commands answers origins)

-- the serials among the outlet's words: every second one
unfoldable pub serials : List ℕ → List ℕ
serials [] = []
serials (code ∷ []) = []
serials (code ∷ serial ∷ l) = serial ∷ serials l

-- n numbers in a row: first, first + 1, ..
unfoldable pub in_a_row : ℕ → ℕ → List ℕ
in_a_row first zero = []
in_a_row first (suc n) = first ∷ in_a_row (suc first) n
