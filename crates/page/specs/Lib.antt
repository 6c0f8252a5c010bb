-- What the writing of a page promises.
pub mod Put
pub mod Written
