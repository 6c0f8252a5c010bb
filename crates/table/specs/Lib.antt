-- What the code of this crate promises, in the words of document 01's definitions (rules/specs).
pub mod Records
pub mod Parts
pub mod Plan
pub mod Judging
