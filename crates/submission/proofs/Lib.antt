pub mod Runs
pub mod Sweeps
pub mod Bases
pub mod Lent
