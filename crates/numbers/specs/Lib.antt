-- The numbers of what answers and of what refuses, case by case.
pub mod Answers
pub mod Backup
pub mod Runs
