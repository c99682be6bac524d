-- The laws that the proofs of this crate share.
pub mod Refusal
pub mod Valid
pub mod Fields
pub mod Textures
pub mod Usage
pub mod Views
