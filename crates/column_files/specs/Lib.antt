-- The root of what this crate means.
pub mod Files
pub mod Theorem
