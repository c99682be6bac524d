-- Why demand 3 holds of the C functions.
pub mod Left
pub mod Read
pub mod Theorem
pub mod Example
pub mod Hidden
