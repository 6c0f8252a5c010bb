-- Generic facts: nothing here knows of boards, channels or programs.
pub mod Tests
pub mod Lists
pub mod Indexing
pub mod Counts
pub mod Sums
pub mod Rings
pub mod Ranges
pub mod Bits
pub mod Walks
pub mod Laying
