-- The root of this crate's laws.
pub mod Turns
pub mod Fits
pub mod Lent
