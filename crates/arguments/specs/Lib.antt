-- The definitions that the contracts of `arguments` cite besides those of `meaning`.
pub mod Checks
pub mod Promises
