pub mod Surfaces
pub mod Submission
pub mod Separate
pub mod Plans
pub mod Views
pub mod Records
