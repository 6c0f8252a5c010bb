-- Commands, answers and refusals, and the numbers of each (document 01, "What each move replies").
use Rattle.std.specs.Prelude.{ℕ}
use Rattle.rules.specs.Table.{environment}
use Rattle.rules.specs.Machine.{Mail, Origin, BusWord, outside}

-- a schedule's record, one command (document 01: "records of six bytes: move, a, word")
pub record Command : Type 0 where
  pub move : ℕ
  pub a : ℕ
  pub word : ℕ

-- why a record is refused, with what told it apart: several have one number
pub data Refusal : Type 0 where
  -- "an unknown move or a word that should be 0"; of a move 8 the a should be 0, too (W-214)
  unknown_move stray_word : Refusal
  -- "a is no process, board or channel of this table"
  no_process no_board no_channel : Refusal
  -- of a carry, and of a crash
  transmit_dead crash_dead : Refusal
  is_halted : Refusal
  -- of a TAKE, and of a FIRST
  no_word_to_take no_word_for_first : Refusal
  -- a sync is owed: for the acts, and for the instructions alone (W-204)
  events_full instructions_full : Refusal
  -- of a SEND, of a sync, and of a resync
  send_blocked sync_blocked rebackup_blocked : Refusal
  -- of a SEND, and of a feed
  send_held inject_held : Refusal
  -- of a sync, and of a resync
  sync_waits rebackup_waits : Refusal
  no_backup outbox_empty not_outside not_backed board_live unready has_backup none_kept : Refusal

unfoldable pub refusal_number : Refusal → ℕ
refusal_number unknown_move = 32
refusal_number stray_word = 32
refusal_number no_process = 33
refusal_number no_board = 33
refusal_number no_channel = 33
refusal_number transmit_dead = 34
refusal_number crash_dead = 34
refusal_number is_halted = 35
refusal_number no_word_to_take = 36
refusal_number no_word_for_first = 36
refusal_number events_full = 37
refusal_number instructions_full = 37
refusal_number send_blocked = 38
refusal_number sync_blocked = 38
refusal_number rebackup_blocked = 38
refusal_number send_held = 39
refusal_number inject_held = 39
refusal_number no_backup = 40
refusal_number sync_waits = 41
refusal_number rebackup_waits = 41
refusal_number outbox_empty = 42
refusal_number not_outside = 43
refusal_number not_backed = 44
refusal_number board_live = 48
refusal_number unready = 49
refusal_number has_backup = 50
refusal_number none_kept = 53

pub data Answer : Type 0 where
  -- a step, a sync, a crash, a return and a resync that are done
  step_done issue_done crash_done rejoin_done rebackup_done : Answer
  -- a record was taken back (W-214)
  undo_done : Answer
  received queued suppressed : Mail → Answer
  -- on the bus: a word that was carried, and one that was fed
  transmitted : BusWord → Answer
  injected : Mail → Answer
  -- of a process: a sync that its backup kept, with how many words that dropped, and one with no backup left
  sync_kept : ℕ → ℕ → Answer
  sync_lost : ℕ → Answer
  -- of a process: a resync, which made its new backup
  transfer_kept : ℕ → Answer
  refused : Refusal → ℕ → Answer

-- "One six-byte answer a record: code, a, word."
pub record Numbers : Type 0 where
  pub code : ℕ
  pub a : ℕ
  pub word : ℕ

abbrev pub numbered : ℕ → ℕ → ℕ → Numbers
numbered code a word = record { code = code; a = a; word = word }

-- "0 done (0, 0). 1 took, 2 queued, 3 held back, 4 word on the bus (channel, word); a feed answers 4. 5 sync carried, 6 sync with no
-- backup left (process, 0). Refusals repeat a with word 0". W-202: "A carried sync then answers 5 with the total dropped as its word".
-- W-210: "Move 7 done, like move 6 done, answers 0." "Its carry answers 5 with word 0". W-214: "answers 7 with 0 and 0".
unfoldable pub numbers : Answer → Numbers
unfolding refusal_number
numbers step_done = numbered 0 0 0
numbers issue_done = numbered 0 0 0
numbers crash_done = numbered 0 0 0
numbers rejoin_done = numbered 0 0 0
numbers rebackup_done = numbered 0 0 0
numbers undo_done = numbered 7 0 0
numbers (received x) = numbered 1 x.channel x.word
numbers (queued x) = numbered 2 x.channel x.word
numbers (suppressed x) = numbered 3 x.channel x.word
numbers (transmitted x) = numbered 4 x.mail.channel x.mail.word
numbers (injected x) = numbered 4 x.channel x.word
numbers (sync_kept p dropped) = numbered 5 p dropped
numbers (sync_lost p) = numbered 6 p 0
numbers (transfer_kept p) = numbered 5 p 0
numbers (refused why a) = numbered (refusal_number why) a 0

-- ---- W-212: where the word on the bus comes from

-- "255 and 255 where no word was on the bus"
abbrev pub no_origin : Origin
no_origin = record { sender = environment; pc = 255 }

unfoldable pub origin_of : Answer → Origin
origin_of (transmitted x) = x.origin
origin_of (injected x) = outside
origin_of step_done = no_origin
origin_of issue_done = no_origin
origin_of crash_done = no_origin
origin_of rejoin_done = no_origin
origin_of rebackup_done = no_origin
origin_of undo_done = no_origin
origin_of (received x) = no_origin
origin_of (queued x) = no_origin
origin_of (suppressed x) = no_origin
origin_of (sync_kept p dropped) = no_origin
origin_of (sync_lost p) = no_origin
origin_of (transfer_kept p) = no_origin
origin_of (refused why a) = no_origin
