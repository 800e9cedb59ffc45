pub mod Scale
pub mod Dequantised
pub mod Macroblocks
pub mod Nearest
pub mod Steps
pub mod Half
