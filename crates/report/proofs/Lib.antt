-- The root of this crate's laws.
pub mod Put
pub mod Appended
pub mod Lines
pub mod Decimal
pub mod Long
pub mod Printed
pub mod Held
