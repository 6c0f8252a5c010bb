-- What the proofs of the writer's calls stand on: what is laid out step by step, and that lists are judged as the bytes laid out of them.
pub mod Pieces
pub mod Walking
pub mod Lengths
pub mod Fitting
pub mod FittedSame
pub mod Composing
