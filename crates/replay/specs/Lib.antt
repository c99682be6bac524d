-- The root of what this program means.
pub mod Room
