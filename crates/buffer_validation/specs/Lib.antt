-- The root of what this crate means.
pub mod Ranges
pub mod Buffers
