-- The laws of copying and of blocks, for the proofs of this crate and of the crates that use it.
pub mod Arrays
pub mod Copying
pub mod Keeping
pub mod Reading
pub mod Writing
pub mod Unique
