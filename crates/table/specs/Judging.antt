-- What the parts of number 8's judgement answer, from the whole table down to a channel's end.
use Rattle.std.specs.Prelude.{Bool, not, ◌&&◌, ◌||◌, List, ℕ, ◌+◌, ◌*◌, eqb, ltb, leb, drop}
use Rattle.facts.specs.Tests.{all_below}
use Rattle.rules.specs.Table.{Table}
use Rattle.rules.specs.Machine.{bit}
use Rattle.rules.specs.Bytes.{byte_at}
use Rattle.rules.specs.Format.{record_head, channels_in, program_length}
use Rattle.rules.specs.Judge.{reads, bits, instruction_ok}
use Rattle.records.specs.Fetch.{fetched, instruction_of}
use Rattle.records.specs.declared.fetch.Instruction.{Instruction}

-- k is a channel, and the byte of its pair on a side (6 for the sender, 7 for the reader) is p
abbrev pub end_is : List ℕ → ℕ → ℕ → ℕ → Bool
end_is bytes side k p = ltb k (channels_in bytes) && eqb (byte_at bytes (2 * k + side)) p

-- process p reads all channels of a mask
unfoldable pub channels_pass : Table → ℕ → ℕ → Bool
channels_pass t p mask = all_below (λ k. not (bit mask k) || reads t p k) 32

-- "The mask has one to four bits set, all channels below C that this process reads."
unfoldable pub mask_ok : Table → ℕ → ℕ → Bool
unfolding channels_pass
mask_ok t p mask = leb 1 (bits mask 32) && (leb (bits mask 32) 4 && channels_pass t p mask)

-- one instruction of process p whose program has n
unfoldable pub passes : Table → ℕ → ℕ → Instruction → Bool
unfolding instruction_ok
passes t p n i = instruction_ok t p n (instruction_of i)

-- the n instructions that begin a part of the table
unfoldable pub program_ok : Table → ℕ → ℕ → List ℕ → Bool
unfolding passes fetched
program_ok t p n program = all_below (λ k. passes t p n (fetched program 0 k)) n

-- the program of the record that begins the rest of a table of a version
unfoldable pub record_ok : Table → ℕ → ℕ → List ℕ → Bool
unfolding program_ok
record_ok t version p rest = program_ok t p (program_length version rest) (drop (record_head version) rest)
