-- What the run promises.
pub mod Judged
pub mod Conducts
pub mod Runs
pub mod Totals
