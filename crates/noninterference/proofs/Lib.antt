-- Why demand 3 holds.
pub mod Spots
pub mod Plans
pub mod Passes
pub mod Sound
pub mod Fresh
pub mod Cells
pub mod Invariant
pub mod Induction
pub mod Checked
pub mod Accepted
pub mod Lendable
pub mod Theorem
pub mod Examples
