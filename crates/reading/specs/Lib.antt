-- The definitions that the contracts of `reading` cite.
pub mod Reading
pub mod Steps
pub mod Promises
