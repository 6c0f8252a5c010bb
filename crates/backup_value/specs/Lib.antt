-- The backup record by value: how the code's struct stands for the value, and what every call promises.
pub mod Value
