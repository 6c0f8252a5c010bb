-- Numbers and what they stand for: which numbers are no move and no instruction, and where the refusals' numbers lie.
use mathlib.Core.Path.{◌≡◌, refl, ap, sym}
use mathlib.Core.Logic.{◌≢◌}
use mathlib.Core.Bool.{Bool, true, false, cond}
use Prim.Native.Nat.{ℕ, zero, suc, ◌≤◌}
use native.Mathlib.Omega.{arith}
use lib.Dec.{eqb}
use borrow.Author.Tests.{ne_eqb}
use Rattle.rules.specs.Table.{Instruction, SET, ADD, TAKE, FIRST, SEND, JUMP, NONE}
use Rattle.rules.specs.Format.{instruction}
use Rattle.rules.specs.Cabinet.{Process, exhausted}
use Rattle.rules.specs.Reasons.{refusal_cause}
use Rattle.rules.specs.Moves.{Move, step_move, issue_move, transmit_move, inject_move, crash_move, rejoin_move, rebackup_move, unknown, move_of, Refusal, unknown_move, stray_word, no_process, no_board, no_channel, transmit_dead, crash_dead, is_halted, no_word_to_take, no_word_for_first, events_full, instructions_full, send_blocked, sync_blocked, rebackup_blocked, send_held, inject_held, no_backup, sync_waits, rebackup_waits, outbox_empty, not_outside, not_backed, board_live, unready, has_backup, none_kept, refusal_number, missing, owed_for}

-- ---- moves

-- "The word is 0 except in a feed."
abbrev pub is_feed : Move → Bool
is_feed step_move = false
is_feed issue_move = false
is_feed transmit_move = false
is_feed inject_move = true
is_feed crash_move = false
is_feed rejoin_move = false
is_feed rebackup_move = false
is_feed unknown = false

pub move_of_feed : (n : ℕ) → is_feed (move_of n) ≡ eqb n 4
move_of_feed zero = refl
move_of_feed (suc zero) = refl
move_of_feed (suc (suc zero)) = refl
move_of_feed (suc (suc (suc zero))) = refl
move_of_feed (suc (suc (suc (suc zero)))) = refl
move_of_feed (suc (suc (suc (suc (suc zero))))) = refl
move_of_feed (suc (suc (suc (suc (suc (suc zero)))))) = refl
move_of_feed (suc (suc (suc (suc (suc (suc (suc zero))))))) = refl
move_of_feed (suc (suc (suc (suc (suc (suc (suc (suc n)))))))) = sym (ne_eqb (suc (suc (suc (suc (suc (suc (suc (suc n)))))))) 4 (λ e. omega arith))

pub move_of-unknown : (n : ℕ) → n ≢ 1 → n ≢ 2 → n ≢ 3 → n ≢ 4 → n ≢ 5 → n ≢ 6 → n ≢ 7 → move_of n ≡ unknown
move_of-unknown zero a b c d e f g = refl
move_of-unknown (suc zero) a b c d e f g = absurd (a refl)
move_of-unknown (suc (suc zero)) a b c d e f g = absurd (b refl)
move_of-unknown (suc (suc (suc zero))) a b c d e f g = absurd (c refl)
move_of-unknown (suc (suc (suc (suc zero)))) a b c d e f g = absurd (d refl)
move_of-unknown (suc (suc (suc (suc (suc zero))))) a b c d e f g = absurd (e refl)
move_of-unknown (suc (suc (suc (suc (suc (suc zero)))))) a b c d e f g = absurd (f refl)
move_of-unknown (suc (suc (suc (suc (suc (suc (suc zero))))))) a b c d e f g = absurd (g refl)
move_of-unknown (suc (suc (suc (suc (suc (suc (suc (suc n)))))))) a b c d e f g = refl

-- ---- instructions

pub instruction-none : (code a operand : ℕ) → code ≢ 1 → code ≢ 2 → code ≢ 3 → code ≢ 4 → code ≢ 5 → code ≢ 6 → instruction code a operand ≡ NONE
instruction-none zero a operand h1 h2 h3 h4 h5 h6 = refl
instruction-none (suc zero) a operand h1 h2 h3 h4 h5 h6 = absurd (h1 refl)
instruction-none (suc (suc zero)) a operand h1 h2 h3 h4 h5 h6 = absurd (h2 refl)
instruction-none (suc (suc (suc zero))) a operand h1 h2 h3 h4 h5 h6 = absurd (h3 refl)
instruction-none (suc (suc (suc (suc zero)))) a operand h1 h2 h3 h4 h5 h6 = absurd (h4 refl)
instruction-none (suc (suc (suc (suc (suc zero))))) a operand h1 h2 h3 h4 h5 h6 = absurd (h5 refl)
instruction-none (suc (suc (suc (suc (suc (suc zero)))))) a operand h1 h2 h3 h4 h5 h6 = absurd (h6 refl)
instruction-none (suc (suc (suc (suc (suc (suc (suc n))))))) a operand h1 h2 h3 h4 h5 h6 = refl

-- ---- refusals

-- "Refusals [..] are checked in the order written below": 32 to 44; W-210: "New numbers: 48 [..]; 49 [..]; 50"; W-214: 53
pub record InList (n : ℕ) : Type 0 where
  pub low : 32 ≤ n
  pub high : n ≤ 53

pub refusal_number-listed : (why : Refusal) → InList (refusal_number why)
unfolding refusal_number
refusal_number-listed unknown_move = record { low = omega arith; high = omega arith }
refusal_number-listed stray_word = record { low = omega arith; high = omega arith }
refusal_number-listed no_process = record { low = omega arith; high = omega arith }
refusal_number-listed no_board = record { low = omega arith; high = omega arith }
refusal_number-listed no_channel = record { low = omega arith; high = omega arith }
refusal_number-listed transmit_dead = record { low = omega arith; high = omega arith }
refusal_number-listed crash_dead = record { low = omega arith; high = omega arith }
refusal_number-listed is_halted = record { low = omega arith; high = omega arith }
refusal_number-listed no_word_to_take = record { low = omega arith; high = omega arith }
refusal_number-listed no_word_for_first = record { low = omega arith; high = omega arith }
refusal_number-listed events_full = record { low = omega arith; high = omega arith }
refusal_number-listed instructions_full = record { low = omega arith; high = omega arith }
refusal_number-listed send_blocked = record { low = omega arith; high = omega arith }
refusal_number-listed sync_blocked = record { low = omega arith; high = omega arith }
refusal_number-listed rebackup_blocked = record { low = omega arith; high = omega arith }
refusal_number-listed send_held = record { low = omega arith; high = omega arith }
refusal_number-listed inject_held = record { low = omega arith; high = omega arith }
refusal_number-listed no_backup = record { low = omega arith; high = omega arith }
refusal_number-listed sync_waits = record { low = omega arith; high = omega arith }
refusal_number-listed rebackup_waits = record { low = omega arith; high = omega arith }
refusal_number-listed outbox_empty = record { low = omega arith; high = omega arith }
refusal_number-listed not_outside = record { low = omega arith; high = omega arith }
refusal_number-listed not_backed = record { low = omega arith; high = omega arith }
refusal_number-listed board_live = record { low = omega arith; high = omega arith }
refusal_number-listed unready = record { low = omega arith; high = omega arith }
refusal_number-listed has_backup = record { low = omega arith; high = omega arith }
refusal_number-listed none_kept = record { low = omega arith; high = omega arith }

-- no refusal is a 4
pub refusal_number-not_4 : (why : Refusal) → eqb (refusal_number why) 4 ≡ false
refusal_number-not_4 why = ne_eqb (refusal_number why) 4 (λ e. let a = (refusal_number-listed why).low in omega arith)

-- "37": for the acts or for the instructions
pub owed_number : (limit : ℕ) (x : Process) → refusal_number (owed_for limit x) ≡ 37
unfolding refusal_number
owed_number limit x = go (exhausted limit x)
  where
    go : (b : Bool) → refusal_number (cond b events_full instructions_full) ≡ 37
    go true = refl
    go false = refl

-- W-206: "1 when only the 64 instructions are to blame"
pub owed_cause : (limit : ℕ) (x : Process) → refusal_cause (owed_for limit x) ≡ cond (exhausted limit x) 0 1
unfolding refusal_cause
owed_cause limit x = go (exhausted limit x)
  where
    go : (b : Bool) → refusal_cause (cond b events_full instructions_full) ≡ cond b 0 1
    go true = refl
    go false = refl

-- whichever of the two found no word
pub missing-number : (i : Instruction) → refusal_number (missing i) ≡ 36
unfolding missing refusal_number
missing-number (SET a v) = refl
missing-number (ADD a b) = refl
missing-number (TAKE a k) = refl
missing-number (FIRST a mask) = refl
missing-number (SEND a k) = refl
missing-number (JUMP a n) = refl
missing-number NONE = refl

-- W-206: "Code 36: 1 for FIRST."
pub missing_cause : (code a operand : ℕ) → refusal_cause (missing (instruction code a operand)) ≡ cond (eqb code 4) 1 0
unfolding missing refusal_cause
missing_cause zero a operand = refl
missing_cause (suc zero) a operand = refl
missing_cause (suc (suc zero)) a operand = refl
missing_cause (suc (suc (suc zero))) a operand = refl
missing_cause (suc (suc (suc (suc zero)))) a operand = refl
missing_cause (suc (suc (suc (suc (suc zero))))) a operand = refl
missing_cause (suc (suc (suc (suc (suc (suc zero)))))) a operand = refl
missing_cause (suc (suc (suc (suc (suc (suc (suc n))))))) a operand =
    sym (ap (λ (b : Bool). cond b 1 0) (ne_eqb (suc (suc (suc (suc (suc (suc (suc n))))))) 4 (λ e. omega arith)))
