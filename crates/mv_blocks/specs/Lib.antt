pub mod Raster
pub mod Blocks
pub mod Written
pub mod Steps
