-- The laws that the proofs of this crate share.
pub mod Reading
pub mod Bits
pub mod Nan
pub mod Writing
