-- The root of this crate's proofs.
pub mod Columns
pub mod Refusals
pub mod Theorem
