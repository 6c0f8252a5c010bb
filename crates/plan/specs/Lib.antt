-- A table's plan, and what it says of the table.
pub mod Plan
