-- A store beside the lent one, and the lent one alone:
pub mod Beside
pub mod Own
-- what is written:
pub mod Reporting
-- the start, and quiet:
pub mod Starting
pub mod Quieting
