-- The laws of the tests, for the proofs of this crate and of the crates that use it.
pub mod Limits
pub mod Twice
pub mod Keys
pub mod Unique
