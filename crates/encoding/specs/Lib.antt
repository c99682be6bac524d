-- The root of what this crate means.
pub mod Reading
pub mod Writing
