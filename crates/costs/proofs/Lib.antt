-- That the contracts of `costs` allow one result each.
pub mod Unique
