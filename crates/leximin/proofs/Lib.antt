-- The laws of solving, for the proofs of this crate and of the crates that use it.
pub mod Profiles
pub mod Floors
pub mod Climbs
pub mod Solvable
pub mod Outcomes
pub mod Unique
