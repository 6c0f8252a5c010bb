-- What the proofs of a sweep stand on.
pub mod Pulling
pub mod Admitting
pub mod Endings
pub mod Counting
pub mod Judging
pub mod Sweeping
