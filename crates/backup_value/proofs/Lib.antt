-- The calls by value: a backup is laid out for the calls on lent numbers, and put together again.
pub mod ByValue
