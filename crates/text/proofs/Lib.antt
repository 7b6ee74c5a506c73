-- The laws of reading text, for the proofs of this crate and of the crates that use it.
pub mod Ranges
pub mod Sorts
pub mod Numbers
pub mod Places
pub mod Bounds
pub mod Unique
pub mod Faults
pub mod Cases
