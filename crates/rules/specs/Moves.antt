-- The seven moves and every refusal in its order (document 01, "The cabinet's moves", "What each move replies"; document 02, W-210).
use Rattle.std.specs.Prelude.{Bool, true, false, not, cond, ◌||◌, List, [], ◌∷◌, ◌++◌, map, ℕ, zero, suc, eqb, leb, length, get_or, set}
use Rattle.std.proofs.Math.Option.{Option, none, some}
use Rattle.backup.specs.Report.{total_dropped, sync_report}
use Rattle.backup.specs.Replica.{Message, Replica, Checkpoint, Reply, FailOver, arrive, count, sync, fail_over}
use Rattle.rules.specs.Table.{Table, Instruction, SET, ADD, TAKE, FIRST, SEND, JUMP, NONE, environment, channel_at, code_of, limit_of}
use Rattle.rules.specs.Table.{port_of, channel_on}
use Rattle.rules.specs.Machine.{Mail, Machine, internal, took, sent, Outcome, halted, no_mail, moved, instruction_at, local_step}
use Rattle.rules.specs.Machine.{sent_from, delivered}
use Rattle.rules.specs.Cabinet.{outbox_most, Standby, Since, Process, Item, message, checkpoint, transfer, is_complete, Cabinet}
use Rattle.rules.specs.Cabinet.{none_since, nobody, process_at, outbox_at, dead_at, protected, limited, other_board, some_unbacked}
use Rattle.rules.specs.Cabinet.{exhausted, overrun, owing, full, crowded, waiting}
pub use Rattle.rules.specs.Answers.{Command, Refusal, unknown_move, stray_word, no_process, no_board, no_channel, transmit_dead, crash_dead}
pub use Rattle.rules.specs.Answers.{is_halted, no_word_to_take, no_word_for_first, events_full, instructions_full, send_blocked, sync_blocked}
pub use Rattle.rules.specs.Answers.{rebackup_blocked, send_held, inject_held, sync_waits, rebackup_waits, no_backup, outbox_empty}
pub use Rattle.rules.specs.Answers.{not_outside, not_backed, board_live, unready, has_backup, none_kept}
pub use Rattle.rules.specs.Answers.{Answer, step_done, issue_done, crash_done, rejoin_done, rebackup_done, received, queued, suppressed}
pub use Rattle.rules.specs.Answers.{transmitted, injected, sync_kept, sync_lost, transfer_kept, undo_done, refused, Numbers, numbered, no_origin}
unfoldable pub use Rattle.rules.specs.Answers.{refusal_number, numbers, origin_of}

-- what a move comes to: a refusal, or the cabinet afterwards and the answer
pub data Result : Type 0 where
  refuse : Refusal → Result
  accept : Cabinet → Answer → Result

-- a check: where it applies the move is refused, otherwise the next one is looked at
unfoldable pub guard : Bool → Refusal → Result → Result
guard true why rest = refuse why
guard false why rest = rest

-- ---- writing the state

abbrev pub with_process : ℕ → Process → Cabinet → Cabinet
with_process p x c = record { processes = set c.processes p x; outboxes = c.outboxes; dead = c.dead }

abbrev pub with_outbox : ℕ → List Item → Cabinet → Cabinet
with_outbox b q c = record { processes = c.processes; outboxes = set c.outboxes b q; dead = c.dead }

abbrev pub enqueue : ℕ → Item → Cabinet → Cabinet
enqueue b item c = with_outbox b (outbox_at c b ++ (item ∷ [])) c

abbrev pub on_replica : (Replica → Reply) → Option Standby → Option Standby
on_replica call none = none
on_replica call (some s) = some (record { board = s.board; replica = (call s.replica).replica; complete = s.complete })

-- the same on a backup; a record that is being made is none yet
abbrev pub on_backup : (Replica → Reply) → Option Standby → Option Standby
on_backup call standby = cond (is_complete standby) (on_replica call standby) standby

-- a process with another backup, or none
abbrev pub with_standby : Option Standby → Process → Process
with_standby standby x = record { machine = x.machine; board = x.board; suppress = x.suppress; since = x.since; standby = standby }

-- a process after an instruction: its machine, what is counted, and its suppression
unfoldable pub advanced : Machine → Since → ℕ → Process → Process
advanced m since suppress x = record { machine = m; board = x.board; suppress = suppress; since = since; standby = x.standby }

-- "A backed process has acts: takes and queued sends since its last sync was issued." W-204: "64 instructions done since its last sync was
-- issued." Of a process without a backup nothing is counted.
abbrev pub counting : (Since → Since) → Process → Since
counting more x = cond (limited x) (more x.since) x.since

-- one instruction more that is no act
abbrev pub one_done : Since → Since
one_done n = record { instructions = suc n.instructions; events = n.events; taken = n.taken }

-- one queued send more
abbrev pub one_sent : Since → Since
one_sent n = record { instructions = suc n.instructions; events = suc n.events; taken = n.taken }

-- one receive more on a port
abbrev pub one_taken : ℕ → Since → Since
one_taken port n = record {
  instructions = suc n.instructions;
  events = suc n.events;
  taken = set n.taken port (suc (get_or n.taken port 0));
}

-- ---- 1 step

-- a sync is owed before a TAKE, a FIRST or a SEND: for the instructions alone where the acts owe none
abbrev pub owed_for : ℕ → Process → Refusal
owed_for limit x = cond (exhausted limit x) events_full instructions_full

-- "A SEND with hold-back above 0 lowers it by one and sends nothing. Otherwise the word joins its board's queue."
-- "For a SEND not held back: 37 likewise, 38 queue full, 39 held." (A process with hold-back has no backup, so that nothing is counted.)
unfoldable pub send : Table → Cabinet → ℕ → Process → Machine → Mail → ℕ → Result
unfolding exhausted overrun owing full advanced
send t c p x m mail (suc h) = accept (with_process p (advanced m x.since h x) c) (suppressed mail)
send t c p x m mail zero =
    guard (owing (limit_of t p) x) (owed_for (limit_of t p) x)
    (guard (leb outbox_most (length (outbox_at c x.board))) send_blocked
    (guard (full t c mail.channel) send_held
    (accept (with_process p (advanced m (counting one_sent x) 0 x) (enqueue x.board (message mail x.machine.pc) c)) (queued mail))))

-- "36 no such word": which of the two found none
unfoldable pub missing : Instruction → Refusal
missing (FIRST a mask) = no_word_for_first
missing (TAKE a k) = no_word_to_take
missing (SET a v) = no_word_to_take
missing (ADD a b) = no_word_to_take
missing (SEND a k) = no_word_to_take
missing (JUMP a n) = no_word_to_take
missing NONE = no_word_to_take

-- "Step: 35 halted. For TAKE and FIRST: 36 no such word, then 37 if backed and acts are 8. [..] SET, ADD and JUMP always succeed." W-207:
-- the limit of the process's placement is asked for, not 8. W-204: after 64 instructions "every kind of instruction then answers 37, TAKE and
-- FIRST still answering 36 first when no word is there. This amends the sentence that SET, ADD and JUMP always succeed."
unfoldable pub step_from : Table → Cabinet → ℕ → Process → Outcome → Result
unfolding send advanced exhausted overrun owing missing
step_from t c p x halted = refuse is_halted
step_from t c p x no_mail = refuse (missing (instruction_at (code_of t p) x.machine))
step_from t c p x (moved m internal) =
    guard (overrun x) instructions_full
    (accept (with_process p (advanced m (counting one_done x) x.suppress x) c) step_done)
step_from t c p x (moved m (took mail)) =
    guard (owing (limit_of t p) x) (owed_for (limit_of t p) x)
    (accept (with_process p (advanced m (counting (one_taken (port_of t p mail.channel)) x) x.suppress x) c) (received mail))
step_from t c p x (moved m (sent mail)) = send t c p x m mail x.suppress

unfoldable pub step : Table → Cabinet → ℕ → Result
unfolding step_from local_step nobody
step t c p = step_from t c p (process_at c p) (local_step (code_of t p) (process_at c p).machine)

-- ---- 2 sync

unfoldable pub issued : Process → Process
issued x = record { machine = x.machine; board = x.board; suppress = x.suppress; since = none_since; standby = x.standby }

-- "a snapshot (registers, place, takes per slot since the last issue)"
abbrev pub snapshot : Process → Checkpoint
snapshot x = record { pc = x.machine.pc; registers = x.machine.registers; taken = x.since.taken }

-- "joins the queue; acts become 0. One sync a process may be waiting there." "Sync: 40 no backup, 41 one waiting, 38 queue full."
unfoldable pub issue : Table → Cabinet → ℕ → Result
unfolding issued nobody
issue t c p =
    let x = process_at c p in
    guard (not (protected x)) no_backup
    (guard (waiting p (outbox_at c x.board)) sync_waits
    (guard (leb outbox_most (length (outbox_at c x.board))) sync_blocked
    (accept (with_process p (issued x) (enqueue x.board (checkpoint p (snapshot x)) c)) issue_done)))

-- ---- 3 carry, 4 feed

-- the reader's half of a delivery: "to the reader's inbox, the reader's backup record", to one that is being made too: "then all that have
-- arrived since issue"
unfoldable pub receive : Table → ℕ → Mail → Process → Process
unfolding delivered arrive
receive t p mail x = record {
  machine = delivered mail x.machine;
  board = x.board;
  suppress = x.suppress;
  since = x.since;
  standby = on_replica (λ r. arrive r (port_of t p mail.channel) mail.word) x.standby;
}

-- a word reaches its reader; one that the environment reads goes to no process
unfoldable pub deliver : Table → Mail → Cabinet → Cabinet
unfolding receive nobody
deliver t mail c =
    let reader = (channel_at t mail.channel).reader in
    with_process reader (receive t reader mail (process_at c reader)) c

-- the sender's half: "the sender's backup record, which counts it and keeps no copy"
unfoldable pub counts : Process → Process
unfolding count
counts x = with_standby (on_backup count x.standby) x

-- "A sync replaces the state in the process's backup record"
unfoldable pub keeps : Checkpoint → Process → Process
unfolding sync
keeps s x = with_standby (on_backup (λ r. sync r s) x.standby) x

-- "the total dropped": of the words saved in the backup, by the report of the record's sync
abbrev pub dropped_from : Checkpoint → Option Standby → ℕ
dropped_from s none = 0
dropped_from s (some b) = total_dropped (sync_report b.replica s)

-- "5 sync carried, 6 sync with no backup left", of the sync of process p, which is x
abbrev pub landed : ℕ → Checkpoint → Process → Answer
landed p s x = cond (protected x) (sync_kept p (dropped_from s x.standby)) (sync_lost p)

-- W-210: "When that entry is carried, its other table board holds a new record with those words, then all that have arrived since issue, and
-- count 0."
abbrev pub completed : Option Standby → Option Standby
completed none = none
completed (some s) = some (record { board = s.board; replica = s.replica; complete = true })

unfoldable pub end_transfer : Process → Process
end_transfer x = with_standby (completed x.standby) x

-- "A word goes, in one move, to the reader's inbox, the reader's backup record, and the sender's backup record."
unfoldable pub transmit_item : Table → Cabinet → Item → Result
unfolding deliver counts keeps end_transfer nobody
transmit_item t c (message mail pc) =
    let sender = (channel_at t mail.channel).sender in
    accept (deliver t mail (with_process sender (counts (process_at c sender)) c)) (transmitted (sent_from sender pc mail))
transmit_item t c (checkpoint p s) =
    accept (with_process p (keeps s (process_at c p)) c) (landed p s (process_at c p))
transmit_item t c (transfer p) = accept (with_process p (end_transfer (process_at c p)) c) (transfer_kept p)

-- "Carry looks at the oldest entry; with none the answer is 42."
unfoldable pub transmit_oldest : Table → Cabinet → ℕ → List Item → Result
unfolding transmit_item
transmit_oldest t c b [] = refuse outbox_empty
transmit_oldest t c b (item ∷ rest) = transmit_item t (with_outbox b rest c) item

-- "Carry: 34 board dead, 42 queue empty."
unfoldable pub transmit : Table → Cabinet → ℕ → Result
unfolding transmit_oldest
transmit t c b = guard (dead_at c b) transmit_dead (transmit_oldest t c b (outbox_at c b))

-- "Feed: 43 sender not outside, 39 held."
unfoldable pub inject : Table → Cabinet → Mail → Result
unfolding full deliver
inject t c mail =
    guard (not (eqb (channel_at t mail.channel).sender environment)) not_outside
    (guard (full t c mail.channel) inject_held
    (accept (deliver t mail c) (injected mail)))

-- ---- 5 crash

-- the machine that a promoted backup goes on as: "the record's state, the saved words as inbox"
unfoldable pub recovered : Table → ℕ → FailOver → Machine
recovered t p f = record {
  registers = f.registers;
  pc = f.pc;
  mailbox = map (λ (m : Message). record { channel = channel_on t p m.port; word = m.word }) f.log;
}

-- "goes on at its backup board with the record's state, the saved words as inbox and the count as hold-back"
unfoldable pub promoted : Table → ℕ → Standby → Process
unfolding recovered fail_over
promoted t p s =
    let f = fail_over s.replica in
    record { machine = recovered t p f; board = s.board; suppress = f.sent; since = none_since; standby = none }

unfoldable pub unprotected : Process → Process
unprotected x = with_standby none x

-- what the crash of board b makes of process p: "All processes that had either half there have no backup from then on."
unfoldable pub after_crash : Table → ℕ → ℕ → Process → Option Standby → Process
unfolding promoted unprotected
after_crash t b p x none = x
after_crash t b p x (some s) = cond (eqb b x.board) (promoted t p s) (cond (eqb b s.board) (unprotected x) x)

-- the same for a list of processes, of which the first is process p
unfoldable pub all_after_crash : Table → ℕ → ℕ → List Process → List Process
unfolding after_crash
all_after_crash t b p [] = []
all_after_crash t b p (x ∷ l) = after_crash t b p x x.standby ∷ all_after_crash t b (suc p) l

-- "Crash: 34 already dead". W-210: "Crash refuses with 44 now exactly while some process has no backup." "its queue is lost"
unfoldable pub crash : Table → Cabinet → ℕ → Result
unfolding all_after_crash some_unbacked
crash t c b =
    guard (dead_at c b) crash_dead
    (guard (some_unbacked c) not_backed
    (accept (record {
      processes = all_after_crash t b 0 c.processes;
      outboxes = set c.outboxes b [];
      dead = set c.dead b true;
    }) crash_done))

-- ---- 6 return

-- reintegration of a board (document 02: return): "Move 6 returns board a with an empty queue; nothing runs there yet." "48, a return of a
-- live board, after 33"
unfoldable pub rejoin : Table → Cabinet → ℕ → Result
rejoin t c b =
    guard (not (dead_at c b)) board_live
    (accept (record { processes = c.processes; outboxes = set c.outboxes b []; dead = set c.dead b false }) rejoin_done)

-- ---- 7 resync

-- "its snapshot and copies of all its unread words", as the record that they make, with "count 0"
unfoldable pub copied : Table → ℕ → Machine → Replica
copied t p m = record {
  log = map (λ (x : Mail). record { port = port_of t p x.channel; word = x.word }) m.mailbox;
  sent = 0;
  pc = m.pc;
  registers = m.registers;
}

-- "Acts, instructions and takes per slot start from 0 at issue". The new record is on "its other table board".
unfoldable pub begin_transfer : Table → ℕ → Process → Process
unfolding copied
begin_transfer t p x = record {
  machine = x.machine;
  board = x.board;
  suppress = x.suppress;
  since = none_since;
  standby = some (record { board = other_board t p x; replica = copied t p x.machine; complete = false });
}

-- state transfer to a new backup (document 02: resync). "Move 7 refuses in the order 50, 49, 41 (for a waiting resync too), 38." "49, hold-back
-- above 0 or, on one channel it reads, more than 8 words unread and in queues together; 50, the process has a backup or its other table board
-- is dead."
unfoldable pub rebackup : Table → Cabinet → ℕ → Result
unfolding begin_transfer crowded nobody
rebackup t c p =
    let x = process_at c p in
    guard (protected x || dead_at c (other_board t p x)) has_backup
    (guard (not (eqb x.suppress 0) || crowded t c p) unready
    (guard (waiting p (outbox_at c x.board)) rebackup_waits
    (guard (leb outbox_most (length (outbox_at c x.board))) rebackup_blocked
    (accept (with_process p (begin_transfer t p x) (enqueue x.board (transfer p) c)) rebackup_done))))

-- ---- one command

pub data Move : Type 0 where
  step_move issue_move transmit_move inject_move crash_move rejoin_move rebackup_move unknown : Move

-- "1 step process a", "2 sync process a", "3 carry board a", "4 feed outside channel a", "5 crash board a". W-210: "Move 6 returns board a",
-- "Move 7 resyncs process a". "Neither move is unknown any more under 32, and both take 33." (Move 8 of W-214 is no move of a cabinet: `Undo`.)
abbrev pub move_of : ℕ → Move
move_of zero = unknown
move_of (suc zero) = step_move
move_of (suc (suc zero)) = issue_move
move_of (suc (suc (suc zero))) = transmit_move
move_of (suc (suc (suc (suc zero)))) = inject_move
move_of (suc (suc (suc (suc (suc zero))))) = crash_move
move_of (suc (suc (suc (suc (suc (suc zero)))))) = rejoin_move
move_of (suc (suc (suc (suc (suc (suc (suc zero))))))) = rebackup_move
move_of (suc (suc (suc (suc (suc (suc (suc (suc n)))))))) = unknown

-- "a word that should be 0": "The word is 0 except in a feed."
abbrev pub wordless : Command → Result → Result
wordless r rest = guard (not (eqb r.word 0)) stray_word rest

-- "33 if a is no process, board or channel of this table", by the move
abbrev pub of_process : Table → Command → Result → Result
of_process t r rest = guard (leb (length t.processes) r.a) no_process rest

abbrev pub of_board : Table → Command → Result → Result
of_board t r rest = guard (leb t.boards r.a) no_board rest

abbrev pub of_channel : Table → Command → Result → Result
of_channel t r rest = guard (leb (length t.channels) r.a) no_channel rest

-- "Any record: 32 for an unknown move or a word that should be 0; 33 [..]", then the move
unfoldable pub perform : Table → Cabinet → Command → Move → Result
unfolding step issue transmit inject crash rejoin rebackup
perform t c r step_move = wordless r (of_process t r (step t c r.a))
perform t c r issue_move = wordless r (of_process t r (issue t c r.a))
perform t c r transmit_move = wordless r (of_board t r (transmit t c r.a))
perform t c r inject_move = of_channel t r (inject t c (record { channel = r.a; word = r.word }))
perform t c r crash_move = wordless r (of_board t r (crash t c r.a))
perform t c r rejoin_move = wordless r (of_board t r (rejoin t c r.a))
perform t c r rebackup_move = wordless r (of_process t r (rebackup t c r.a))
perform t c r unknown = refuse unknown_move

unfoldable pub judged : Table → Cabinet → Command → Result
unfolding perform
judged t c r = perform t c r (move_of r.move)

pub record Turn : Type 0 where
  pub cabinet : Cabinet
  pub answer : Answer

-- a refused record leaves the cabinet as it was
abbrev pub settle : Cabinet → Command → Result → Turn
settle c r (refuse why) = record { cabinet = c; answer = refused why r.a }
settle c r (accept d x) = record { cabinet = d; answer = x }

unfoldable pub turn : Table → Cabinet → Command → Turn
unfolding judged
turn t c r = settle c r (judged t c r)

-- a list of commands, each given the cabinet that the last one left
pub record Outcomes : Type 0 where
  pub cabinet : Cabinet
  pub answers : List Answer

unfoldable pub run_from : Table → Cabinet → List Command → Outcomes
unfolding turn
run_from t c [] = record { cabinet = c; answers = [] }
run_from t c (r ∷ rs) =
    let now = turn t c r in
    let rest = run_from t now.cabinet rs in
    record { cabinet = rest.cabinet; answers = now.answer ∷ rest.answers }
