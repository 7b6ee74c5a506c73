-- The laws of the state, for the proofs of this crate and of the crates that use it.
pub mod Putting
pub mod Behind
pub mod Answering
pub mod Holding
pub mod Depths
pub mod Reading
pub mod Testing
pub mod Following
pub mod Extending
pub mod Runs
pub mod Unique
