-- What move 5 promises.
pub mod Crashes
pub mod Each
pub mod Losses
pub mod Processes
pub mod Recount
