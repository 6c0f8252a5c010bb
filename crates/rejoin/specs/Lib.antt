-- What moves 6 and 7 promise.
pub mod Rejoins
pub mod Rebackups
