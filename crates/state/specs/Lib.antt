-- The cabinet as the moves are lent it: how it stands for the rules' cabinet, what is kept of it, and what every move promises.
pub mod Queue
pub mod Channel
pub mod Store
pub mod Moved
pub mod Beside
