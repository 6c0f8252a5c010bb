-- Where 32 or 33 applies the rules refuse with it, and otherwise they make the move.
pub mod Judging
-- So what such a record is answered.
pub mod Answering
