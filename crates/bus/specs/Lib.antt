-- What moves 3 and 4 promise.
pub mod Parts
pub mod Delivers
pub mod Syncs
pub mod Transfers
pub mod Transmitted
pub mod Carries
pub mod Injects
pub mod Transmits
pub mod Origins
pub mod Carried
