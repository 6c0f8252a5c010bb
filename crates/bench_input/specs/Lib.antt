-- What the bench program's two calls promise.
pub mod Wanted
pub mod Benched
pub mod Parts
