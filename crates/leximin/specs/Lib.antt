-- The definitions that the contracts of `leximin` cite.
pub mod Solving
