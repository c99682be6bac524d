-- The root of what this crate means beyond the definition.
pub mod Recording
