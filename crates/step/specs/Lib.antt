-- What moves 1 and 2 promise, by themselves and with their entries.
pub mod Issues
pub mod Joining
pub mod Parts
pub mod Steps
