-- Documents 01 and 02 as definitions: read Sizes, Table, Machine, Reference, Cabinet, Answers, Moves and Reasons in this order, then
-- Transparent; for the bytes Bytes, Format, Schedule, Run and Transparency, and Page; for every place to pull a board Sweep.
pub mod Sizes
pub mod Table
pub mod Machine
pub mod Reference
pub mod Cabinet
pub mod Answers
pub mod Moves
pub mod Undo
pub mod Reasons
pub mod Judge
pub mod Bounds
pub mod RollForward
pub mod Transparent
pub mod Rebackup
pub mod Recovery
pub mod Origins
pub mod Bytes
pub mod Format
pub mod FirstVersion
pub mod Encode
pub mod Schedule
pub mod Run
pub mod Transparency
pub mod Page
pub mod Sweep
