-- The root of this crate's proofs.
pub mod Front
pub mod Theorem
pub mod Written
