-- The definitions that the contracts of `state` cite.
pub mod Writing
pub mod Holds
pub mod Promises
pub mod Additions
pub mod Runs
