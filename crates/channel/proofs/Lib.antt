pub mod Resolve
pub mod Valued
