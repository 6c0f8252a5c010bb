-- Numbers that hold two words.
pub mod Words
