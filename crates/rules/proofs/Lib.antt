-- What is proved of document 01's definitions.
-- Demand 3 over any list of commands, in the order to read. One machine, and what an accepted table gives:
pub mod Decoded
pub mod Steps
pub mod Runs
pub mod Tables
-- one process beside its machine in the reference, and its backup:
pub mod Ahead
pub mod Good
pub mod Tally
pub mod Replays
pub mod Links
pub mod Backups
pub mod GoodMoves
pub mod Carried
pub mod Copies
pub mod Transfers
-- the whole cabinet, and each move followed by the reference machine:
pub mod Invariant
pub mod Guards
pub mod Frame
pub mod References
pub mod Follow
pub mod Transmission
pub mod Crashed
pub mod CrashKeeps
-- The bounds of one state: read Counting, Room, Keep, Sizes and Bounded in this order.
pub mod Outboxes
pub mod Inputs
pub mod Counting
pub mod Room
pub mod Keep
pub mod KeepRoom
pub mod Sizes
pub mod Saved
pub mod Flight
pub mod Bounded
-- Demand 3: one command and any list, the start, a quiet end, the theorem.
pub mod Turn
pub mod Start
pub mod Quiet
pub mod Transparency
-- The bounds of every state that is reached, and what a crash there leaves to do again.
pub mod Reached
pub mod RollForward
-- W-210 of every state that is reached: the record of a resync, what waits, what arrives meanwhile, the totals, and where a process's halves are.
pub mod CopyCalls
pub mod Pending
pub mod Arrivals
pub mod Totals
pub mod Homes
-- W-211: backed again, and nothing again.
pub mod Recovery
-- W-214: a session by records, the records that stand in it, and what is taken back.
pub mod Undo
pub mod Standing
pub mod Undoes
-- W-213: the three counts together, what the runs of a sweep share, and that the crash put in is never refused.
pub mod Sweep
pub mod PutIn
-- Tables and runs in bytes. What lists give is computed of two of them before it is proved of all.
pub mod Valid
pub mod Scheduled
pub mod FirstVersion
pub mod ReadBack
pub mod EncodeCases
pub mod Encoding
pub mod Apart
pub mod AcceptedRun
pub mod Buffers
-- Cases, computed: M1 to M13, then those that only a case can tell.
pub mod Cases
pub mod Marked
pub mod MoveCases
pub mod LongCases
pub mod LimitCases
pub mod RejoinCases
pub mod SweepCases
pub mod UndoCases
pub mod ReasonCases
pub mod FormatCases
pub mod PageCases
pub mod ReferenceCases
-- W-202 leaves the bus order alone.
pub mod BusOrder
-- W-212: channel and word, as they were compared before; what tells an origin; a wrong jump that only an origin shows.
pub mod BusWords
pub mod Origins
pub mod OriginCases
-- W-206: one byte never fits two causes.
pub mod OneCause
-- Demand 3 of every accepted run.
pub mod Theorem
-- W-212 of every accepted run: an origin names a SEND.
pub mod Senders
-- W-211, computed.
pub mod CrashAfterCrash
