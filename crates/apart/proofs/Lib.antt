-- What the proof of `take_apart` stands on: what is taken step by step, and the promise put together.
pub mod Pieces
pub mod Storing
pub mod Walking
pub mod Parting
