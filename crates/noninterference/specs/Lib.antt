-- Demand 3: the memory, the claim, and the theorems as statements.
pub mod Memory
pub mod Claim
pub mod Theorem
