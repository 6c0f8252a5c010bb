-- What any record may be answered before its move is made (document 01, "What each move replies"), and why (document 02, W-206).
use Rattle.std.specs.Prelude.{Bool, not, cond, ◌&&◌, ℕ, eqb, leb, Option, Some, None}
use Rattle.numbers.specs.declared.answers.Reason.{Reason}
use Rattle.numbers.specs.declared.answers.Reason.TheVariants.{NoSuchMove, WordNotZero, NoSuchProcess, NoSuchBoard, NoSuchChannel}
use Rattle.numbers.specs.Answers.{code_in}
use Rattle.plan.specs.declared.Counts.{Counts}
use Rattle.records.specs.declared.schedule.Command.{Command}
use Rattle.state.specs.declared.moved.Answer.{Answer}
use Rattle.state.specs.Moved.{refusal_of}
use Rattle.rules.specs.Moves.{Move, step_move, issue_move, transmit_move, inject_move, crash_move, rejoin_move, rebackup_move, unknown, move_of}

-- 33, or nothing
abbrev pub beyond_of : ℕ → ℕ → Reason → Option Reason
beyond_of a most reason = cond (leb most a) (Some reason) None

-- "33 if a is no process, board or channel of this table", by the move; 32 for an unknown one. W-206: "Code 33: 1 for a board, 2 for a channel."
unfoldable pub absent_of : Counts → ℕ → Move → Option Reason
absent_of counts a step_move = beyond_of a counts.processes NoSuchProcess
absent_of counts a issue_move = beyond_of a counts.processes NoSuchProcess
absent_of counts a transmit_move = beyond_of a counts.boards NoSuchBoard
absent_of counts a inject_move = beyond_of a counts.channels NoSuchChannel
absent_of counts a crash_move = beyond_of a counts.boards NoSuchBoard
-- W-210: "Neither move is unknown any more under 32, and both take 33." "under 33, move 6 has cause 1 and move 7 cause 0"
absent_of counts a rejoin_move = beyond_of a counts.boards NoSuchBoard
absent_of counts a rebackup_move = beyond_of a counts.processes NoSuchProcess
absent_of counts a unknown = Some NoSuchMove

-- "The word is 0 except in a feed."
abbrev pub worded_of : ℕ → ℕ → Bool
worded_of mv word = not (eqb mv 4) && not (eqb word 0)

-- W-206: "Code 32: 1 when the move is known and the word is at fault."
unfoldable pub stray_of : Move → Reason
stray_of step_move = WordNotZero
stray_of issue_move = WordNotZero
stray_of transmit_move = WordNotZero
stray_of inject_move = WordNotZero
stray_of crash_move = WordNotZero
stray_of rejoin_move = WordNotZero
stray_of rebackup_move = WordNotZero
stray_of unknown = NoSuchMove

-- "Any record: 32 for an unknown move or a word that should be 0"
unfoldable pub judge_of : Counts → Command → Option Reason
unfolding absent_of stray_of
judge_of counts c = cond (worded_of c.mv c.word) (Some (stray_of (move_of c.mv))) (absent_of counts c.a (move_of c.mv))

-- the code that it gives, 0 for nothing
abbrev pub number_said : Option Reason → ℕ
number_said None = 0
number_said (Some reason) = code_in reason

-- W-206, of a known move: "Code 32: 1 when the move is known and the word is at fault"; of a 33 what it says there
abbrev pub fault_of : ℕ → ℕ → ℕ
fault_of number of-33 = cond (eqb number 32) 1 of-33

-- the cause of a 32 or a 33, by the move: "Code 33: 1 for a board, 2 for a channel."
unfoldable pub cause_by : ℕ → Move → ℕ
cause_by number step_move = fault_of number 0
cause_by number issue_move = fault_of number 0
cause_by number transmit_move = fault_of number 1
cause_by number inject_move = fault_of number 2
cause_by number crash_move = fault_of number 1
-- W-210: "under 33, move 6 has cause 1 and move 7 cause 0"
cause_by number rejoin_move = fault_of number 1
cause_by number rebackup_move = fault_of number 0
cause_by number unknown = 0

-- the answer to a record with a number: a refusal repeats a, with its cause
abbrev pub turned_away : ℕ → ℕ → ℕ → Answer
turned_away number mv a = refusal_of number (cause_by number (move_of mv)) a
