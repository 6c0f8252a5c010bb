-- One process: how the code's stands for the rules', what is kept of it, and what the calls make of it.
pub mod Row
pub mod Mailbox
pub mod Change
pub mod Promotion
pub mod Transfer
