pub mod Telling
pub mod Binding
