-- The definitions that the contracts of `tuples` cite.
pub mod Keys
pub mod Rows
