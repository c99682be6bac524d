-- Demand 3 of the C functions: runs of calls, and the theorem as a statement.
pub mod Run
pub mod Theorem
