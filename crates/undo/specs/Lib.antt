-- What is held of the records since the base, what doing them again promises, and what the session does.
pub mod History
pub mod Replays
pub mod Sessions
