pub mod DepthStencil
pub mod Resolving
pub mod Effects
