-- The laws behind the proofs of `reply`.
pub mod Naming
pub mod Replying
pub mod Telling
pub mod Surely
pub mod Existing
pub mod Unique
