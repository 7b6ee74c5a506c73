-- The laws of the lines that the program writes.
pub mod Digits
pub mod Putting
pub mod Found
pub mod Unique
pub mod Cases
