-- The root of what this crate means.
pub mod Text
pub mod Put
pub mod Appended
pub mod Output
pub mod Oversize
pub mod Held
pub mod Printed
pub mod Examples
