-- What the proofs of the calls share.
pub mod Laying
pub mod Widths
pub mod Blocks
pub mod OfProcess
pub mod OfBoard
pub mod Whole
pub mod Cases
