-- The laws of decisions, for the proofs of this crate and of the crates that use it.
pub mod Blocks
pub mod Decisions
pub mod TakingBack
pub mod Unique
