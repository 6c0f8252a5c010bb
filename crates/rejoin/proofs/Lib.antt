-- Moves 6 and 7 in the store.
pub mod Rejoining
pub mod BackingUp
