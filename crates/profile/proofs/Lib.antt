pub mod Lengths
pub mod Placing
pub mod Padding
pub mod Comparing
pub mod Unique
pub mod Cases
