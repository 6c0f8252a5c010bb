-- Why the label line labels.
pub mod Sequences
pub mod Serials
pub mod Phases
pub mod Turns
pub mod Plain
pub mod Flowing
pub mod Spacing
pub mod Tables
pub mod Labelling
pub mod Running
