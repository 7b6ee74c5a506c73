-- The definitions that the contracts of `setup` cite.
pub mod Promises
