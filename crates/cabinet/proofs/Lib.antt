-- Why a run is refused or not, why it is the rules', and why its totals are counted afresh.
pub mod Judging
pub mod Running
pub mod Totals
