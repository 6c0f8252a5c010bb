-- One instruction of a process: what it would do, and what the calls that do it make of the process.
pub mod Mailbox
pub mod Instruction
pub mod Laws
