-- Why moves 3 and 4 are the rules'.
pub mod Own
pub mod Delivering
pub mod Leaving
pub mod Besides
pub mod Syncing
pub mod Transferring
pub mod Injecting
pub mod Carrying
pub mod Transmitting
pub mod Originating
