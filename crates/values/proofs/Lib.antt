-- The laws of the functions on sets of values, for the proofs of this crate and of the crates that use it.
pub mod Pairs
pub mod One
pub mod Ends
pub mod Drop
pub mod Below
pub mod Subsets
pub mod Unique
