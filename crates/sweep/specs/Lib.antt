-- Every place to pull a board (document 02, W-213): read Sweeps, the call's promise. Pulled, Counted and Judged are of private steps.
pub mod Pulled
pub mod Counted
pub mod Judged
pub mod Sweeps
