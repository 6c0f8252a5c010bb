-- What the code of this crate stands on, and what the crates above may use of it.
-- Six bytes at their place:
pub mod Sixes
-- a schedule judged:
pub mod Judged
-- bytes stored:
pub mod Writing
