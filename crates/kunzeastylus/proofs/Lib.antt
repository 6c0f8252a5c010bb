-- What the proofs of the exported calls stand on.
pub mod Packing
pub mod Tabling
pub mod Sweeping
