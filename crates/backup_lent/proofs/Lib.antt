-- The calls on lent numbers: a record is looked through, called in place, and its head written back.
pub mod Looking
pub mod Lending
