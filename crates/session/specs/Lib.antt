-- The root of what this crate means beyond the definition.
pub mod Rows
pub mod Counted
pub mod Derived
