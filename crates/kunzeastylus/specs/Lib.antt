-- What the exported calls promise. The backup record's promises are those of crate backup_lent.
pub mod Abi
pub mod Judges
pub mod Packed
pub mod Label
pub mod Sweep
pub mod Tables
