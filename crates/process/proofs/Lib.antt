-- What the calls on one process make of the process that it stands for.
pub mod Mailboxes
pub mod Processes
pub mod Backups
pub mod Readdressing
pub mod Promoting
pub mod Transferring
