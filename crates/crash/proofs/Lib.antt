-- Why move 5 is the rules'.
pub mod Recounting
pub mod Promoting
pub mod Holding
pub mod Crashing
