-- An answer's bytes:
pub mod Answers
-- what records leave in the buffers,
pub mod Sheets
-- why moves 5 to 7 can be promised together,
pub mod Mending
-- and why what records leave of the cabinet is what the rules leave:
pub mod Playing
