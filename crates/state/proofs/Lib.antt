-- What the moves do to the cabinet that the store holds.
pub mod Reading
pub mod Totals
pub mod Changing
pub mod Boards
pub mod Popping
pub mod Queueing
pub mod Reaching
pub mod Refusing
pub mod Making
pub mod Beside
-- What the moves rest on: facts of an accepted table and of every cabinet that commands reach.
pub mod Ends
pub mod Known
pub mod Arrivals
pub mod Owners
pub mod Counters
pub mod Waits
pub mod Flagging
pub mod Joining
pub mod Held
