-- The definitions that the contracts of `costs` cite.
pub mod Costs
