-- What one instruction does to the process.
pub mod Mailboxes
pub mod Examining
pub mod Counting
pub mod Computing
pub mod Taking
