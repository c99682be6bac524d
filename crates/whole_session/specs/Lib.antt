-- The root of what this crate means.
pub mod Numbers
pub mod Rows
