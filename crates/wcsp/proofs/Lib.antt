-- The laws behind the proofs of `wcsp`.
pub mod Adding
pub mod Buffers
pub mod Cases
pub mod Heaping
pub mod Keying
pub mod Sound
pub mod Standing
pub mod Tabling
pub mod Tupling
pub mod Unique
pub mod Wholes
