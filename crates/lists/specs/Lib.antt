-- The root of what this crate means.
pub mod Lists
pub mod Lent
