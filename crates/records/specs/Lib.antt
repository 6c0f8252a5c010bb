-- What the code of this crate promises, in the words of document 01's definitions (rules/specs).
pub mod Six
pub mod Fetch
pub mod Commands
