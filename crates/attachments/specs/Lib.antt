-- The root of what this crate means beyond the definition.
pub mod Attached
pub mod Effect
pub mod Resolved
pub mod Plans
