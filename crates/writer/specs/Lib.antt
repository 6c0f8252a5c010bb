-- What the code of this crate promises, in the words of the rules' definitions (rules/specs/Encode.antt).
pub mod Given
pub mod Fitted
pub mod Writes
