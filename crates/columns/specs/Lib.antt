-- The root of what this crate means.
pub mod Columns
pub mod Promise
pub mod Theorem
pub mod Examples
