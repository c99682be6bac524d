pub mod Operations
pub mod Pass
pub mod Valued
