-- The definitions that the contracts of `decide` cite.
pub mod Decisions
