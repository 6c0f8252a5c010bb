-- Why a record is answered so (W-206: "the answer's code times 4, plus a cause"), by its number, and the two that it is made of. Document 01: "Where an
-- answer is an enum, the promises use a definition that gives this paper's number and values for each of its cases."
use Rattle.std.specs.Prelude.{ℕ, ◌/◌, ◌%◌}
use Rattle.numbers.specs.declared.answers.Reason.{Reason}
use Rattle.numbers.specs.declared.answers.Reason.TheVariants.{Calculated, SyncIssued, BoardCrashed, ReturnedOrResync, Took}
use Rattle.numbers.specs.declared.answers.Reason.TheVariants.{Queued, HeldBack, Carried, Fed, SyncCarried, ResyncCarried}
use Rattle.numbers.specs.declared.answers.Reason.TheVariants.{SyncUnbacked, TakenBack, NoSuchMove, WordNotZero}
use Rattle.numbers.specs.declared.answers.Reason.TheVariants.{NoSuchProcess, NoSuchBoard, NoSuchChannel, CarryOfDead}
use Rattle.numbers.specs.declared.answers.Reason.TheVariants.{CrashOfDead, Halted, NoWordForTake, NoWordForFirst}
use Rattle.numbers.specs.declared.answers.Reason.TheVariants.{OwesForActs, OwesForInstructions, QueueFullForSend}
use Rattle.numbers.specs.declared.answers.Reason.TheVariants.{QueueFullForSync, QueueFullForResync, HeldForSend, HeldForFeed}
use Rattle.numbers.specs.declared.answers.Reason.TheVariants.{NoBackup, SyncWaiting, ResyncWaiting, QueueEmpty}
use Rattle.numbers.specs.declared.answers.Reason.TheVariants.{NotFromOutside, SomeUnbacked, BoardLive, NotReady, HasBackup}
use Rattle.numbers.specs.declared.answers.Reason.TheVariants.{NoneKept}

abbrev pub reason_number : Reason → ℕ
reason_number Calculated = 0
reason_number SyncIssued = 1
reason_number BoardCrashed = 2
reason_number ReturnedOrResync = 3
reason_number Took = 4
reason_number Queued = 8
reason_number HeldBack = 12
reason_number Carried = 16
reason_number Fed = 17
reason_number SyncCarried = 20
reason_number ResyncCarried = 23
reason_number SyncUnbacked = 24
reason_number TakenBack = 28
reason_number NoSuchMove = 128
reason_number WordNotZero = 129
reason_number NoSuchProcess = 132
reason_number NoSuchBoard = 133
reason_number NoSuchChannel = 134
reason_number CarryOfDead = 136
reason_number CrashOfDead = 137
reason_number Halted = 140
reason_number NoWordForTake = 144
reason_number NoWordForFirst = 145
reason_number OwesForActs = 148
reason_number OwesForInstructions = 149
reason_number QueueFullForSend = 152
reason_number QueueFullForSync = 153
reason_number QueueFullForResync = 155
reason_number HeldForSend = 156
reason_number HeldForFeed = 157
reason_number NoBackup = 160
reason_number SyncWaiting = 164
reason_number ResyncWaiting = 167
reason_number QueueEmpty = 168
reason_number NotFromOutside = 172
reason_number SomeUnbacked = 176
reason_number BoardLive = 192
reason_number NotReady = 196
reason_number HasBackup = 200
reason_number NoneKept = 212

-- the answer's code
abbrev pub code_in : Reason → ℕ
code_in r = reason_number r / 4

-- and the cause, 0 to 3
abbrev pub cause_in : Reason → ℕ
cause_in r = reason_number r % 4
