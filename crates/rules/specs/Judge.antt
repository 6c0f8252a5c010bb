-- What numbers 5 to 8 and 47 ask of a whole table, each as one test (document 01, "The table" and "What each move replies").
-- Numbers 1 to 4 are judged on the bytes.
use Rattle.std.specs.Prelude.{◌≡◌, Bool, true, false, not, cond, ◌&&◌, ◌||◌, ℕ, zero, suc, ◌≤◌, ◌<◌, eqb, ltb, leb, length}
use Rattle.facts.specs.Tests.{all_of, all_below}
use Rattle.backup.specs.Limits.{ports, pc_most}
use Rattle.rules.specs.Sizes.{boards_least, boards_most, processes_most, channels_most, limit_least, limit_most}
use Rattle.rules.specs.Table.{environment, Channel, Instruction, SET, ADD, TAKE, FIRST, SEND, JUMP, NONE, Placement, Table, channel_at}
use Rattle.rules.specs.Table.{code_of, inputs}
use Rattle.rules.specs.Machine.{bit}

-- "a process number, or 255 for the outside"
abbrev pub end_ok : ℕ → ℕ → Bool
end_ok processes e = ltb e processes || eqb e environment

-- 5: "channel ends"; "never both 255"
unfoldable pub ends_ok : Table → Bool
ends_ok t =
    all_of (λ (c : Channel). end_ok (length t.processes) c.sender
    && (end_ok (length t.processes) c.reader && not (eqb c.sender environment && eqb c.reader environment))) t.channels

-- 6: "A process reads at most four channels."
unfoldable pub inputs_ok : Table → Bool
unfolding inputs
inputs_ok t = all_below (λ p. leb (length (inputs t p)) ports) (length t.processes)

-- 7: "a board not below B, or primary equal to backup"
unfoldable pub boards_ok : Table → Bool
boards_ok t =
    all_of (λ (x : Placement). ltb x.primary t.boards && (ltb x.standby t.boards && not (eqb x.primary x.standby)))
    t.processes

-- process p reads, or sends on, channel k of the table
abbrev pub reads : Table → ℕ → ℕ → Bool
reads t p k = ltb k (length t.channels) && eqb (channel_at t k).reader p

abbrev pub sends : Table → ℕ → ℕ → Bool
sends t p k = ltb k (length t.channels) && eqb (channel_at t k).sender p

-- how many of the n lowest bits of a mask are set
abbrev pub bits : ℕ → ℕ → ℕ
bits mask zero = 0
bits mask (suc n) =
    let lower = bits mask n in
    cond (bit mask n) (suc lower) lower

-- 8: "an instruction", one of process p whose program has n. "Elsewhere a is 0 to 3, and ADD's operand too."
unfoldable pub instruction_ok : Table → ℕ → ℕ → Instruction → Bool
instruction_ok t p n (SET a v) = ltb a 4
instruction_ok t p n (ADD a b) = ltb a 4 && ltb b 4
-- "The process must read that channel."
instruction_ok t p n (TAKE a k) = ltb a 4 && reads t p k
-- "(a at most 2)"; "The mask has one to four bits set, all channels below C that this process reads."
instruction_ok t p n (FIRST a mask) =
    ltb a 3 && (leb 1 (bits mask 32) && (leb (bits mask 32) 4 && all_below (λ k. not (bit mask k) || reads t p k) 32))
-- "to channel operand, of which this process is the sender"
instruction_ok t p n (SEND a k) = ltb a 4 && sends t p k
-- "to place operand (0 to n)"
instruction_ok t p n (JUMP a target) = ltb a 4 && leb target n
-- no code but 1 to 6 is one
instruction_ok t p n NONE = false

unfoldable pub instructions_ok : Table → Bool
unfolding instruction_ok
instructions_ok t = all_below (λ p. all_of (instruction_ok t p (length (code_of t p))) (code_of t p)) (length t.processes)

-- 47: "a limit outside 1 to 16"
abbrev pub limit_ok : ℕ → Bool
limit_ok limit = leb limit_least limit && leb limit limit_most

unfoldable pub limits_ok : Table → Bool
limits_ok t = all_of (λ (x : Placement). limit_ok x.limit) t.processes

-- What is true of every table that is accepted: the counts of number 3, n of number 4, and the tests of 5 to 8 and 47.
pub record Accepted (t : Table) : Type 0 where
  pub boards_low : boards_least ≤ t.boards
  pub boards_high : t.boards ≤ boards_most
  pub processes_low : 1 ≤ length t.processes
  pub processes_high : length t.processes ≤ processes_most
  pub channels_low : 1 ≤ length t.channels
  pub channels_high : length t.channels ≤ channels_most
  pub short : (p : ℕ) → p < length t.processes → length (code_of t p) ≤ pc_most
  pub ends : ends_ok t ≡ true
  pub few-inputs : inputs_ok t ≡ true
  pub on_boards : boards_ok t ≡ true
  pub instructions : instructions_ok t ≡ true
  pub limits : limits_ok t ≡ true
