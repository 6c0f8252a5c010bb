-- What the calls in place do to the value that their arrays stand for.
pub mod Drops
pub mod ReportLaws
pub mod InPlace
pub mod Arriving
pub mod Compacting
pub mod Syncing
