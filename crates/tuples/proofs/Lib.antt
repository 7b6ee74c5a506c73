-- The laws of tuples and their keys, for the proofs of this crate and of the crates that use it.
pub mod Chains
pub mod Comparing
pub mod Marks
pub mod Rows
pub mod Unique
