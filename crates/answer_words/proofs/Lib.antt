-- The root of the laws.
pub mod Laws
pub mod PlaceLaws
