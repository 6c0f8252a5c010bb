-- W-206: "one byte never fits two causes", and every byte of an answer is one.
use mathlib.Core.Path.{◌≡◌}
use Prim.Native.Nat.{ℕ, ◌≤◌, ◌<◌}
use native.Mathlib.Omega.{arith}
use Rattle.rules.specs.Moves.{Refusal, unknown_move, stray_word, no_process, no_board, no_channel, transmit_dead, crash_dead, is_halted, no_word_to_take, no_word_for_first, events_full, instructions_full, send_blocked, sync_blocked, rebackup_blocked, send_held, inject_held, no_backup, sync_waits, rebackup_waits, outbox_empty, not_outside, not_backed, board_live, unready, has_backup, none_kept, refusal_number, Answer, step_done, issue_done, crash_done, rejoin_done, rebackup_done, undo_done, received, queued, suppressed, transmitted, injected, sync_kept, sync_lost, transfer_kept, refused, numbers}
use Rattle.rules.specs.Reasons.{refusal_cause, cause_of, reason_of}

-- no code is above 53, and no cause above 3
pub record Small (code cause : ℕ) : Type 0 where
  pub code_small : code ≤ 53
  pub cause_small : cause < 4

small : {code cause : ℕ} → code ≤ 53 → cause < 4 → Small code cause
small a b = record { code_small = a; cause_small = b }

refusal_small : (why : Refusal) → Small (refusal_number why) (refusal_cause why)
unfolding refusal_number refusal_cause
refusal_small unknown_move = small (omega arith) (omega arith)
refusal_small stray_word = small (omega arith) (omega arith)
refusal_small no_process = small (omega arith) (omega arith)
refusal_small no_board = small (omega arith) (omega arith)
refusal_small no_channel = small (omega arith) (omega arith)
refusal_small transmit_dead = small (omega arith) (omega arith)
refusal_small crash_dead = small (omega arith) (omega arith)
refusal_small is_halted = small (omega arith) (omega arith)
refusal_small no_word_to_take = small (omega arith) (omega arith)
refusal_small no_word_for_first = small (omega arith) (omega arith)
refusal_small events_full = small (omega arith) (omega arith)
refusal_small instructions_full = small (omega arith) (omega arith)
refusal_small send_blocked = small (omega arith) (omega arith)
refusal_small sync_blocked = small (omega arith) (omega arith)
refusal_small rebackup_blocked = small (omega arith) (omega arith)
refusal_small send_held = small (omega arith) (omega arith)
refusal_small inject_held = small (omega arith) (omega arith)
refusal_small no_backup = small (omega arith) (omega arith)
refusal_small sync_waits = small (omega arith) (omega arith)
refusal_small rebackup_waits = small (omega arith) (omega arith)
refusal_small outbox_empty = small (omega arith) (omega arith)
refusal_small not_outside = small (omega arith) (omega arith)
refusal_small not_backed = small (omega arith) (omega arith)
refusal_small board_live = small (omega arith) (omega arith)
refusal_small unready = small (omega arith) (omega arith)
refusal_small has_backup = small (omega arith) (omega arith)
refusal_small none_kept = small (omega arith) (omega arith)

pub answer_small : (x : Answer) → Small (numbers x).code (cause_of x)
unfolding numbers cause_of
answer_small step_done = small (omega arith) (omega arith)
answer_small issue_done = small (omega arith) (omega arith)
answer_small crash_done = small (omega arith) (omega arith)
answer_small rejoin_done = small (omega arith) (omega arith)
answer_small rebackup_done = small (omega arith) (omega arith)
answer_small undo_done = small (omega arith) (omega arith)
answer_small (received x) = small (omega arith) (omega arith)
answer_small (queued x) = small (omega arith) (omega arith)
answer_small (suppressed x) = small (omega arith) (omega arith)
answer_small (transmitted x) = small (omega arith) (omega arith)
answer_small (injected x) = small (omega arith) (omega arith)
answer_small (sync_kept p dropped) = small (omega arith) (omega arith)
answer_small (sync_lost p) = small (omega arith) (omega arith)
answer_small (transfer_kept p) = small (omega arith) (omega arith)
answer_small (refused why a) = refusal_small why

-- "The byte must be the cause that the rules give, and one byte never fits two causes."
pub one_cause : (x y : Answer) → reason_of x ≡ reason_of y → ((numbers x).code ≡ (numbers y).code) × (cause_of x ≡ cause_of y)
unfolding reason_of
one_cause x y e =
    let a = (answer_small x).cause_small in
    let b = (answer_small y).cause_small in
    (omega arith, omega arith)

-- it fits a byte
pub reason_byte_lem : (x : Answer) → reason_of x < 256
unfolding reason_of
reason_byte_lem x =
    let a = (answer_small x).code_small in
    let b = (answer_small x).cause_small in
    omega arith
