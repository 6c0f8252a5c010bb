-- What is promised of a run's start, of its report, and of its end.
pub mod Starts
pub mod Reports
pub mod Quiets
