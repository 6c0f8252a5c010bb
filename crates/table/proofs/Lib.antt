-- What the code of this crate stands on, and what the crates above may use of it.
-- The programs at their place:
pub mod Programs
-- numbers 1 to 4:
pub mod Extents
-- 5, 6 and 7, a pass over the table each:
pub mod OneChannel
pub mod EndsPass
pub mod PortsPass
pub mod BoardsPass
-- 8, from a channel's end up to the whole table:
pub mod Masks
pub mod OneInstruction
pub mod Walk
-- all eight, and the plan:
pub mod Decoding
