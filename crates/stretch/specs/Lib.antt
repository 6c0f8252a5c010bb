-- What an answer is in bytes, what moves 5 to 7 promise together, what the records one after the other do, what those come to that are no step,
-- no sync and no carry, and how far a stretch reaches.
pub mod Written
pub mod Mends
pub mod Plays
pub mod Others
pub mod Reach
