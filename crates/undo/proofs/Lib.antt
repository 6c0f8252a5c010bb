-- Records that are held, byte by byte,
pub mod Remembering
-- and done once more.
pub mod Replaying
-- What the session's loop has in hand, record by record.
pub mod Hand
-- and what holds between two of its rounds.
pub mod Going
-- All records, as one stretch or as a session.
pub mod AllRecords
