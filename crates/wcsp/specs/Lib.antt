-- The definitions that the contracts of `wcsp` cite. Files says what a file means, with `Reading` of the crate `reading`.
pub mod Files
pub mod Steps
pub mod Promises
