-- The laws of a new state, its variables and its objectives, for the proofs of this crate and of the crates that use it.
pub mod Variables
pub mod Naming
pub mod Unique
