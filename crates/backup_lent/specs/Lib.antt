-- The backup record on lent numbers: what every call promises of any arrays, what that tells of them, and what its private steps do.
pub mod Lent
pub mod LentLaws
pub mod Steps
