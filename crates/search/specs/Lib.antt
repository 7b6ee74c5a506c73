-- The definitions that the contracts of `search` cite.
pub mod Spreading
pub mod Search
pub mod Thresholds
pub mod Choosing
pub mod Tasks
