-- Proofs of the bench program's two calls.
pub mod Reading
pub mod Room
pub mod Printing
