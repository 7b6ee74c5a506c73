-- The definitions that the contracts of `reply` cite.
pub mod Replies
