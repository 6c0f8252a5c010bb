-- Why that answer (document 02, W-206): "The service desk wants a second list with one byte a record: the answer's code times 4, plus a cause."
-- The refusals and the answers of Moves know what told them apart; here each has its cause.
use Rattle.std.specs.Prelude.{ℕ, ◌+◌, ◌*◌}
use Rattle.rules.specs.Moves.{Refusal, unknown_move, stray_word, no_process, no_board, no_channel, transmit_dead, crash_dead, is_halted}
use Rattle.rules.specs.Moves.{no_word_to_take, no_word_for_first, events_full, instructions_full, send_blocked, sync_blocked, rebackup_blocked}
use Rattle.rules.specs.Moves.{send_held, inject_held, no_backup, sync_waits, rebackup_waits, outbox_empty, not_outside, not_backed, board_live}
use Rattle.rules.specs.Moves.{unready, has_backup, none_kept, Answer, step_done, issue_done, crash_done, rejoin_done, rebackup_done, received, queued}
use Rattle.rules.specs.Moves.{suppressed, transmitted, injected, sync_kept, sync_lost, transfer_kept, undo_done, refused, numbers}

-- "The cause is 0 except here."
unfoldable pub refusal_cause : Refusal → ℕ
-- "Code 32: 1 when the move is known and the word is at fault."
-- W-214: "Move 8, with a and word 0 (else 32, cause 1)"
refusal_cause unknown_move = 0
refusal_cause stray_word = 1
-- "Code 33: 1 for a board, 2 for a channel." W-210: "under 33, move 6 has cause 1 and move 7 cause 0"
refusal_cause no_process = 0
refusal_cause no_board = 1
refusal_cause no_channel = 2
-- "Code 34: 1 for a crash."
refusal_cause transmit_dead = 0
refusal_cause crash_dead = 1
refusal_cause is_halted = 0
-- "Code 36: 1 for FIRST."
refusal_cause no_word_to_take = 0
refusal_cause no_word_for_first = 1
-- "Code 37: 1 when only the 64 instructions are to blame (always so for SET, ADD and JUMP)."
refusal_cause events_full = 0
refusal_cause instructions_full = 1
-- "Code 38: 1 for a sync." W-210: "under 5, 38 and 41 a resync" has cause 3
refusal_cause send_blocked = 0
refusal_cause sync_blocked = 1
refusal_cause rebackup_blocked = 3
-- "Code 39: 1 for a feed."
refusal_cause send_held = 0
refusal_cause inject_held = 1
refusal_cause no_backup = 0
refusal_cause sync_waits = 0
refusal_cause rebackup_waits = 3
refusal_cause outbox_empty = 0
refusal_cause not_outside = 0
refusal_cause not_backed = 0
refusal_cause board_live = 0
refusal_cause unready = 0
refusal_cause has_backup = 0
refusal_cause none_kept = 0

unfoldable pub cause_of : Answer → ℕ
unfolding refusal_cause
-- "Code 0: 1 for a sync, 2 for a crash." W-210: "cause 3 under code 0 means a return or a resync, which there count as one cause"
cause_of step_done = 0
cause_of issue_done = 1
cause_of crash_done = 2
cause_of rejoin_done = 3
cause_of rebackup_done = 3
cause_of undo_done = 0
cause_of (received x) = 0
cause_of (queued x) = 0
cause_of (suppressed x) = 0
-- "Code 4: 1 for a feed."
cause_of (transmitted x) = 0
cause_of (injected x) = 1
cause_of (sync_kept p dropped) = 0
cause_of (sync_lost p) = 0
cause_of (transfer_kept p) = 3
cause_of (refused why a) = refusal_cause why

-- "the answer's code times 4, plus a cause"
abbrev pub reason_from : ℕ → ℕ → ℕ
reason_from code cause = code * 4 + cause

-- the byte of an answer
unfoldable pub reason_of : Answer → ℕ
unfolding numbers cause_of
reason_of x = reason_from (numbers x).code (cause_of x)
