-- The root of what this crate means.
pub mod Places
pub mod Words
