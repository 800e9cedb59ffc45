pub mod Front
pub mod Vectors
pub mod Blocks
pub mod Macroblocks
pub mod Slices
pub mod Laws
