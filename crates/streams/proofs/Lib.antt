-- The root of this crate's proofs.
pub mod Answered
mod Pieces
