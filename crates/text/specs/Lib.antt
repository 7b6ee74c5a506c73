-- The definitions that the contracts of `text` cite.
pub mod Bytes
pub mod Words
pub mod Tokens
