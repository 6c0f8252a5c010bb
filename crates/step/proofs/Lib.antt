-- Why moves 1 and 2 are the rules'.
pub mod Own
pub mod Beside
pub mod Issuing
pub mod Stepping
pub mod Calculating
pub mod Taking
pub mod Sending
