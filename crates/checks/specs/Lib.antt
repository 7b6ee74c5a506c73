-- The definitions that the contracts of `checks` cite.
pub mod Tests
