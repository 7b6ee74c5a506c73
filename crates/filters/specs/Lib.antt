-- The definitions that the contracts of `filters` cite.
pub mod Layout
pub mod Filter
pub mod Tables
pub mod Sifting
pub mod Linear
pub mod Held
