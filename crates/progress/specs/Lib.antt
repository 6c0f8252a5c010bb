-- What it means that a cabinet goes on, stands still, or that a stand-by catches up.
pub mod Progress
