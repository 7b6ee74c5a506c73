-- The laws of reading, for the proofs of this crate and of the crates that use it.
pub mod Coming
pub mod Judging
pub mod Readings
pub mod Several
pub mod Keeping
pub mod Unique
