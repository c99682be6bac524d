-- The root of what this crate means.
pub mod Entry
pub mod Reply
pub mod Promise
pub mod Whole
pub mod Index
pub mod EntryPoints
