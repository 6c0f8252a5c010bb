-- The backup record of document 01: its sizes, its value and calls, their laws, and how the code's data stand for the value.
pub mod Limits
pub mod Replica
pub mod Laws
pub mod Accepts
pub mod Report
pub mod Rounds
pub mod Place
pub mod PlaceLaws
