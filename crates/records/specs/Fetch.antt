-- An instruction as the code fetches it, and the rules' instruction that it stands for.
use Rattle.std.specs.Prelude.{List, ℕ, ◌-◌, ◌/◌, length, get_or, drop}
use Rattle.rules.specs.Table as rules
use Rattle.rules.specs.Bytes.{sixes}
use Rattle.rules.specs.Format.{instruction}
use Rattle.records.specs.declared.fetch.Instruction.{Instruction}

abbrev pub numbered : ℕ → ℕ → ℕ → Instruction
numbered code a operand = record { code = code; a = a; operand = operand }

-- the k-th of the whole sixes from byte `at` on; zeros past the last
unfoldable pub fetched : List ℕ → ℕ → ℕ → Instruction
fetched bytes at k = get_or (sixes numbered ((length bytes - at) / 6) (drop at bytes)) k (numbered 0 0 0)

-- the rules' instruction
abbrev pub instruction_of : Instruction → rules.Instruction
instruction_of i = instruction i.code i.a i.operand
