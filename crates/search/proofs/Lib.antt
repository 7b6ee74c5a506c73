-- The laws of the search, for the proofs of this crate and of the crates that use it.
pub mod Taking
pub mod Noting
pub mod Waves
pub mod Lifting
pub mod Reaching
pub mod Raising
pub mod Sieving
pub mod Opening
pub mod Leaves
pub mod Trying
pub mod Choosing
pub mod Unique
