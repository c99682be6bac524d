-- The root of this crate's laws.
pub mod Calls
pub mod Passed
pub mod Sent
pub mod Whole
pub mod Attached
pub mod EntryPoints
