pub mod Slices
pub mod Contents
pub mod Compaction
