-- The root of what this crate means beyond the definition.
pub mod Plans
pub mod Tally
