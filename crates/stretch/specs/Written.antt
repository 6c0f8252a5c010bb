-- What a record's answer and its reason are in bytes.
use Rattle.std.specs.Prelude.{List, ◌∷◌, ℕ, ◌%◌}
use Rattle.rules.specs.Bytes.{word_bytes}
use Rattle.rules.specs.Reasons.{reason_from}
use Rattle.state.specs.declared.moved.Answer.{Answer}

-- "One six-byte answer a record: code, a, word.", of a code and an a below 256
abbrev pub six_bytes : Answer → List ℕ
six_bytes r = r.code % 256 ∷ r.a % 256 ∷ word_bytes r.word

-- W-206: "the answer's code times 4, plus a cause", of a code below 64 and a cause below 4
abbrev pub reason_byte : ℕ → ℕ → ℕ
reason_byte code cause = reason_from (code % 64) (cause % 4)
