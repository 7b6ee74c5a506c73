-- What the proofs of `refusals` add.
pub mod Unique
