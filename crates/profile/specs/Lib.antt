pub mod Upwards
pub mod Compared
